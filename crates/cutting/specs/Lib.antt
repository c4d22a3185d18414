-- The root's set cut to the order.
-- allows, cut_labels, cut_into: what the order allows; put: words at the start of an area
pub mod Cutting
