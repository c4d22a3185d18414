-- The order in which the rules of comm are followed.
-- many_choices: whether it matters; sharing, key_for: the key of a rule; sorted: a list by keys; ordered_rules, rules_for, list_for: the rules in order
pub mod Ordering
-- card_at, ordered_cards: keys with places
pub mod Cards
