-- `forms::kinds::kind_number` meets its contract: each word has its number.
-- Assumes nothing.
use Rattle.forms.proofs.Kinded.{numbered}
use Rattle.forms.proofs.kinds.kind_number.Goals as goal

pub returns-in-418565088612 : goal.returns-in-418565088612
returns-in-418565088612 c = numbered 0 tt c.in-418565088612.is

pub returns-in-7692660 : goal.returns-in-7692660
returns-in-7692660 c = numbered 1 tt c.in-7692660.is

pub returns-in-7627617 : goal.returns-in-7627617
returns-in-7627617 c = numbered 2 tt c.in-7627617.is

pub returns-in-6710642 : goal.returns-in-6710642
returns-in-6710642 c = numbered 3 tt c.in-6710642.is

pub returns-in-7173491 : goal.returns-in-7173491
returns-in-7173491 c = numbered 4 tt c.in-7173491.is

pub returns-in-1684959075 : goal.returns-in-1684959075
returns-in-1684959075 c = numbered 5 tt c.in-1684959075.is

pub returns-in-111477645076579 : goal.returns-in-111477645076579
returns-in-111477645076579 c = numbered 6 tt c.in-111477645076579.is

pub returns-in-111546414229097 : goal.returns-in-111546414229097
returns-in-111546414229097 c = numbered 7 tt c.in-111546414229097.is

pub returns-in-7431539 : goal.returns-in-7431539
returns-in-7431539 c = numbered 8 tt c.in-7431539.is

pub returns-in-435527247213 : goal.returns-in-435527247213
returns-in-435527247213 c = numbered 9 tt c.in-435527247213.is

pub returns-in-111494975286636 : goal.returns-in-111494975286636
returns-in-111494975286636 c = numbered 10 tt c.in-111494975286636.is

pub returns-in-1668184435 : goal.returns-in-1668184435
returns-in-1668184435 c = numbered 11 tt c.in-1668184435.is

pub returns-in-461229747298 : goal.returns-in-461229747298
returns-in-461229747298 c = numbered 12 tt c.in-461229747298.is

pub returns-in-1701079400 : goal.returns-in-1701079400
returns-in-1701079400 c = numbered 13 tt c.in-1701079400.is

pub returns-in-111520460465522 : goal.returns-in-111520460465522
returns-in-111520460465522 c = numbered 14 tt c.in-111520460465522.is

pub returns-in-1835888483 : goal.returns-in-1835888483
returns-in-1835888483 c = numbered 15 tt c.in-1835888483.is

pub returns-in-512970484833 : goal.returns-in-512970484833
returns-in-512970484833 c = numbered 16 tt c.in-512970484833.is
