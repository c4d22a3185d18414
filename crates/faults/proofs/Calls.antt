-- A function without a `requires` asks nothing of its callers.
-- Assumes nothing.

pub asks_nothing : {A B : Type 0} → A → B → Unit {0}
asks_nothing c κs = tt
