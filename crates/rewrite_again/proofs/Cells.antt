-- Cells that are alike, further laws. Assumes nothing.
use mathlib.Core.Path.{◌≡◌, sym, ap, ◌∙◌}
use mathlib.Core.Bool.{true, false≢true}
use mathlib.Core.Logic.{inl, inr}
use Rattle.value.specs.declared.Net.{Net}
use Rattle.cell.specs.declared.Cell.{Cell}
use Rattle.cell.specs.declared.Cell.TheVariants.{Input, Output, Buf, Not, And, Or, Xor, Mux, Aig}
use Rattle.netlist.specs.Shape.{visit_mut, is_input}
use Rattle.order_laws.proofs.Sorts.{inputs-by}
use Rattle.normal.specs.Paired.{exchange, Alike}
use Rattle.normal.proofs.Alike.{exchange-twice, exchange-visit, alike-sym, alike-trans, image-sort}

-- what is alike to the same cell is alike
pub alike_both : (c x y : Cell) → Alike c x → Alike c y → Alike x y
alike_both c x y a b = alike-trans x c y (alike-sym c x a) b

pub image-exchange : (f : Net → Net) (c x : Cell) → Alike (visit_mut f c) x → Alike (visit_mut f (exchange c)) x
image-exchange f c x (inl e) = inr (exchange-visit f (exchange c) ∙ ap (visit_mut f) (exchange-twice c) ∙ e)
image-exchange f c x (inr e) = inl (sym (exchange-visit f c) ∙ e)

-- inputs are their own image
pub input-same : (f : Net → Net) (c x : Cell) → Alike (visit_mut f c) x → is_input x ≡ true → c ≡ x
unfolding visit_mut exchange
input-same f c x a e = go c (image-sort inputs-by f c x a ∙ e) a
  where
    go : (c : Cell) → is_input c ≡ true → Alike (visit_mut f c) x → c ≡ x
    go (Input l) i (inl q) = q
    go (Input l) i (inr q) = q
    go (Output a l) i h = absurd (false≢true i)
    go (Buf a) i h = absurd (false≢true i)
    go (Not a) i h = absurd (false≢true i)
    go (And a b) i h = absurd (false≢true i)
    go (Or a b) i h = absurd (false≢true i)
    go (Xor a b) i h = absurd (false≢true i)
    go (Mux a b c) i h = absurd (false≢true i)
    go (Aig p q) i h = absurd (false≢true i)
