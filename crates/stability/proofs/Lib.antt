-- Laws of round after round, and of what is left in the work area, each file after those that it cites.
-- small-few, few-over: sets that pass no limit; ended-few, ended-stands: a round that is done; handed-stable, handed-unstable: stable
-- exactly if nothing is new in the bodies; next-begins: what the next round begins with
pub mod Turning
-- turned-start, -step, -large, -stable, -end: the loop of `turn_on`; cut_all: the order `all` cuts nothing away
pub mod Rounding
-- midway_start: what the first round begins with
pub mod Starting
-- ran-unready, ran-turned: the promise of `run`; ready-zeros: areas that are enough, with rows of zeros; length-zeros
pub mod Runs
-- passing-large: what a log that is always enough tells; reached-short, reached-run: the promise of `until_stable`; reached-unique: it settles
-- all
pub mod Reaches
