-- Cells to which no rule applies and that have one key are alike. Assumes nothing.
use mathlib.Core.Path.{◌≡◌, refl, sym, ap, ◌∙◌}
use mathlib.Core.Bool.{Bool, true, false, cond, true≢false}
use mathlib.Core.Logic.{◌⊎◌, inl, inr}
use Rattle.value.specs.declared.Net.{Net}
use Rattle.value.specs.Value.{le_net, le_control}
use Rattle.cell.specs.declared.Cell.{Cell}
use Rattle.cell.specs.declared.Cell.TheVariants.{Input, Output, Buf, Not, And, Or, Xor, Mux, Aig}
use Rattle.design.specs.Queue.{Source}
use Rattle.merge.specs.Merge.{key_of}
use Rattle.aig.specs.Aig.{simple_aig_opt}
use Rattle.normal.specs.Paired.{exchange, Alike}
use Rattle.normal.proofs.Normal.{fires}
use Rattle.normal.proofs.Alike.{exchange-twice}

one-of-both : (b : Bool) (c e : Cell) → (cond b c e ≡ c) ⊎ (cond b c e ≡ e)
one-of-both true c e = inl refl
one-of-both false c e = inr refl

module _ (look : Net → Source) where
  -- to an and or an or a rule applies
  key-is : (c : Cell) → fires (simple_aig_opt look c) ≡ false → (key_of c ≡ c) ⊎ (key_of c ≡ exchange c)
  unfolding key_of exchange simple_aig_opt
  key-is (Input l) e = inl refl
  key-is (Output a l) e = inl refl
  key-is (Buf a) e = inl refl
  key-is (Not a) e = inl refl
  key-is (And a b) e = absurd (true≢false e)
  key-is (Or a b) e = absurd (true≢false e)
  key-is (Xor a b) e = one-of-both (le_net a b) (Xor a b) (Xor b a)
  key-is (Mux a b c) e = inl refl
  key-is (Aig p q) e = one-of-both (le_control p q) (Aig p q) (Aig q p)

  pub key-alike : (c e : Cell) → fires (simple_aig_opt look c) ≡ false → fires (simple_aig_opt look e) ≡ false → key_of c ≡ key_of e → Alike c e
  key-alike c e p q k = go (key-is c p) (key-is e q)
    where
      go : (key_of c ≡ c) ⊎ (key_of c ≡ exchange c) → (key_of e ≡ e) ⊎ (key_of e ≡ exchange e) → Alike c e
      go (inl f) (inl g) = inl (sym f ∙ k ∙ g)
      go (inl f) (inr g) = inr (ap exchange (sym f ∙ k ∙ g) ∙ exchange-twice e)
      go (inr f) (inl g) = inr (sym f ∙ k ∙ g)
      go (inr f) (inr g) = inl (sym (exchange-twice c) ∙ ap exchange (sym f ∙ k ∙ g) ∙ exchange-twice e)
