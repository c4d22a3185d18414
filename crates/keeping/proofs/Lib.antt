-- Laws of a set kept alone in the work area.
-- bringing-start, -room, -step, -end: the loop of `bring`; settled-outside, -none, -set: the promise of `settle`; settled-unique
pub mod Bringing
