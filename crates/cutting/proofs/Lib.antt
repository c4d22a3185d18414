-- Laws of the cut to the order.
-- cut-start, cut-room, cut-keep, cut-skip, cut-end: the cut to the order, label by label
pub mod Cuts
