-- Sources, and what a cell reads within a tick. Assumes nothing.
use mathlib.Core.Path.{◌≡◌, refl, ap}
use mathlib.Core.Bool.{Bool, true, false, cond, false≢true}
use mathlib.Core.List.{[]}
use Rattle.cell.specs.declared.Cell.{Cell}
use Rattle.cell.specs.declared.Cell.TheVariants.{Input, Output, Buf, Not, And, Or, Xor, Mux, Aig}
use Rattle.netlist.specs.Shape.{visit, is_input, is_source, comb_reads}

module _ (c : Cell) where
  -- what is no source reads within a tick all that it reads, and a source nothing
  pub other-comb : is_source c ≡ false → comb_reads c ≡ visit c
  unfolding comb_reads
  other-comb e = ap (λ (b : Bool). cond b [] (visit c)) e

  pub source-comb : is_source c ≡ true → comb_reads c ≡ []
  unfolding comb_reads
  source-comb e = ap (λ (b : Bool). cond b [] (visit c)) e

pub input-source : (c : Cell) → is_input c ≡ true → is_source c ≡ true
input-source (Input l) e = refl
input-source (Output a l) e = e
input-source (Buf a) e = e
input-source (Not a) e = e
input-source (And a b) e = e
input-source (Or a b) e = e
input-source (Xor a b) e = e
input-source (Mux a b c) e = e
input-source (Aig p q) e = e

-- THESE TWO HOLD TODAY ONLY. A register will be a source that reads nets and is no input. Whatever rests on sources being inputs cites one of
-- them by its name, so that the places which registers open can be found
pub source-input : (c : Cell) → is_source c ≡ true → is_input c ≡ true
source-input (Input l) e = refl
source-input (Output a l) e = e
source-input (Buf a) e = e
source-input (Not a) e = e
source-input (And a b) e = e
source-input (Or a b) e = e
source-input (Xor a b) e = e
source-input (Mux a b c) e = e
source-input (Aig p q) e = e

pub source-reads-nothing : (c : Cell) → is_source c ≡ true → visit c ≡ []
unfolding visit
source-reads-nothing (Input l) e = refl
source-reads-nothing (Output a l) e = absurd (false≢true e)
source-reads-nothing (Buf a) e = absurd (false≢true e)
source-reads-nothing (Not a) e = absurd (false≢true e)
source-reads-nothing (And a b) e = absurd (false≢true e)
source-reads-nothing (Or a b) e = absurd (false≢true e)
source-reads-nothing (Xor a b) e = absurd (false≢true e)
source-reads-nothing (Mux a b c) e = absurd (false≢true e)
source-reads-nothing (Aig p q) e = absurd (false≢true e)
