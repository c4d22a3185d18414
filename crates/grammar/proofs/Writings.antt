-- The writing of the listing of README.md and of descriptions with every kind of list, computed and compared byte by byte.
-- Assumes nothing.
use mathlib.Core.Bool.{Bool, true, ◌&&◌}
use mathlib.Core.List.{List, [], ◌∷◌}
use Prim.Native.String.{String}
use lib.Dec.{T}
use Rattle.meaning.specs.Bytes.{ascii}
use Rattle.meaning.specs.Descriptions.{act, tau, delta, ref, choice, seq, merge, sync, wrap, block, hide, rename, comm, allow, Order, all, only, Description}
use Rattle.grammar.specs.Text.{same_text}
use Rattle.grammar.proofs.Texts as Texts
use Rattle.grammar.proofs.Texts.{text}
use Rattle.grammar.specs.Marks.{digits, followed, joined_by, part_texts}
use Rattle.grammar.specs.Writing.{each_line, written}

-- A description with its order, and the lines that it is written in.
record Case : Type 0 where
  given : Description
  order : Order
  lines : List String

abbrev document : Case
document =
    record {
      given = record {
        words = ascii "done" ∷ ascii "close" ∷ [];
        terms = act 0 ∷ ref 0 ∷ seq 0 1 ∷ merge 1 1 ∷ wrap (comm (record { left = 2 ∷ 0 ∷ []; right = 1 } ∷ [])) 3 ∷ [];
        bodies = 2 ∷ [];
        root = 4;
      };
      order = all;
      lines = Texts.listing;
    }

abbrev lists : Case
lists =
    record {
      given = record {
        words = ascii "a" ∷ ascii "b" ∷ ascii "c9" ∷ [];
        terms = tau ∷ delta ∷ sync 0 0 ∷ wrap (block (0 ∷ 2 ∷ [])) 2 ∷ wrap (hide (1 ∷ [])) 3
            ∷ wrap (rename (record { left = 0; right = 1 } ∷ record { left = 1; right = 0 } ∷ [])) 4
            ∷ wrap (comm (record { left = 1 ∷ 1 ∷ 0 ∷ []; right = 2 } ∷ record { left = 0 ∷ 0 ∷ 12 ∷ []; right = 0 } ∷ [])) 5 ∷ wrap (allow []) 6
            ∷ wrap (allow ((1 ∷ 0 ∷ 30 ∷ []) ∷ [])) 7 ∷ choice 7 8 ∷ tau ∷ choice 10 9 ∷ [];
        bodies = [];
        root = 11;
      };
      order = only ((1 ∷ 0 ∷ 0 ∷ []) ∷ (0 ∷ 10 ∷ 0 ∷ []) ∷ []);
      lines = "names=3" ∷ "name=a" ∷ "name=b" ∷ "name=c9" ∷ "equations=0" ∷ "terms=12" ∷ "term=tau" ∷ "term=delta" ∷ "term=sync 0 0"
          ∷ "term=block 2 a,c9" ∷ "term=hide 3 b" ∷ "term=rename 4 a>b,b>a" ∷ "term=comm 5 a:1.b:1>c9,c9:12>a" ∷ "term=allow 6 none"
          ∷ "term=allow 7 a:1.c9:30" ∷ "term=choice 7 8" ∷ "term=tau" ∷ "term=choice 10 9" ∷ "root=11" ∷ "order=a:1,b:10" ∷ [];
    }

abbrev no_labels : Case
no_labels =
    record {
      given = record { words = ascii "a" ∷ []; terms = act 0 ∷ []; bodies = 0 ∷ []; root = 0 };
      order = only [];
      lines = "names=1" ∷ "name=a" ∷ "equations=1" ∷ "terms=1" ∷ "term=act a" ∷ "equation=0" ∷ "root=0" ∷ "order=none" ∷ [];
    }

all-written : List Case → Bool
all-written [] = true
all-written (c ∷ cs) = same_text (written c.given c.order) (text c.lines) && all-written cs

computed : T (all-written (document ∷ lists ∷ no_labels ∷ []))
unfolding all-written same_text digits followed joined_by part_texts each_line written
computed = tt
