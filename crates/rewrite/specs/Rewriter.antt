-- The state of the rewriter (netlist/src/rewrite.rs, `Rewriter`), with processing stamps beside. Assumes nothing: these are definitions.
use Rattle.std.specs.Prelude.{Bool, cond, List, [], ◌∷◌, ◌++◌, ℕ, suc, ◌+◌, ◌*◌, eqb, length, get_or, set, replicate, None}
use Rattle.value.specs.declared.Net.{Net}
use Rattle.value.specs.declared.Driver.{Driver}
use Rattle.value.specs.declared.Driver.TheVariants as driven
use Rattle.value.specs.Value.{driver, net, le_net, le_control}
use Rattle.cell.specs.declared.Cell.{Cell}
use Rattle.cell.specs.declared.Cell.TheVariants.{Input, Output, Buf, Not, And, Or, Xor, Mux, Aig}
use Rattle.design.specs.Queue.{Design, unchanged, add_cell, Source}
use Rattle.numberer.specs.Numberer.{Entry}

-- `design`, `cache`, and for `processed` a stamp by slot: 0 is not processed, and a net that is processed later has a higher one. The clock
-- is the last stamp given. Inputs and outputs have none: the Rust's look-up shows an input or a constant, and no
-- rule tells either from an opaque one
pub record Rewriter : Type 0 where
  pub design : Design
  pub cache : List Entry
  pub stamps : List ℕ
  pub clock : ℕ

abbrev pub begun : List Cell → Rewriter
begun cs = record { design = unchanged cs; cache = []; stamps = replicate (length cs) 0; clock = 0 }

-- the stamp of a net, and of a constant 0
abbrev pub stamp_in : List ℕ → Driver → ℕ
stamp_in ts (driven.Const t) = 0
stamp_in ts (driven.Cell s) = get_or ts s.0 0

unfoldable pub stamp : List ℕ → Net → ℕ
stamp ts n = stamp_in ts (driver n)

-- how a net's cell is looked up: the Rust's way is `find_new_cell`
abbrev pub Lookup : Type 0
Lookup = Design → Net → Source

-- `Rewriter::find_cell`
unfoldable pub find_cell : Lookup → Rewriter → Net → Source
find_cell look r n = cond (eqb (stamp r.stamps n) 0) None (look r.design n)

-- a cell is added in the next slot, with `cache.insert` and `processed.insert`
unfoldable pub entered : Rewriter → Cell → Net → Rewriter
entered r c n =
    record {
      design = add_cell r.design c;
      cache = r.cache ++ ((c, n) ∷ []);
      stamps = r.stamps ++ (suc r.clock ∷ []);
      clock = suc r.clock;
    }

-- `processed.insert` for the net of a slot, with the change that was made to the design and what is cached
unfoldable pub finished : Rewriter → ℕ → Design → List Entry → Rewriter
finished r s d es = record { design = d; cache = es; stamps = set r.stamps s (suc r.clock); clock = suc r.clock }

-- the number that falls with each pass over the rules and each cell that a rule adds: twice the sum of the operands' stamps, and a rank
abbrev pub rank : Bool → ℕ → ℕ
rank in_order low = cond in_order low (suc low)

unfoldable pub weight : List ℕ → Cell → ℕ
weight ts (Xor a b) = 2 * (stamp ts a + stamp ts b) + rank (le_net a b) 1
weight ts (Aig p q) = 2 * (stamp ts (net p) + stamp ts (net q)) + rank (le_control p q) 1
weight ts (And a b) = 2 * (stamp ts a + stamp ts b) + rank (le_net a b) 3
weight ts (Or a b) = 2 * (stamp ts a + stamp ts b) + rank (le_net a b) 3
weight ts (Input l) = 0
weight ts (Output a l) = 0
weight ts (Buf a) = 0
weight ts (Not a) = 0
weight ts (Mux a b c) = 0
