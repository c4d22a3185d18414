-- The laws of parts and of sets laid in a list.
-- length-set_at, get_d-set_at, set_at-reach: a set at a place; part_end: a part by its end in the list; laid_nil, length-laid,
-- get_d-laid, take-laid, set_at-laid, laid-laid, laid-self: a set laid at a place
pub mod LaidSets
