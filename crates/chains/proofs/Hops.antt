-- The loop of `is_longer`: a list, followed so many steps. Assumes nothing.
use Rattle.std.specs.Prelude.{Option, Some, None, is_some}
use mathlib.Core.Path.{◌≡◌, refl, sym, ap, ◌∙◌}
use mathlib.Core.Bool.{Bool, false}
use mathlib.Core.List.{List, []}
use Prim.Native.Nat.{ℕ, zero, suc, ◌+◌, ◌-◌, ◌<◌, ◌≤◌}
use native.Mathlib.Omega.{arith}
use lib.Dec.{ltb}
use lib.ListN.{length}
use borrow.Author.Tests.{lt-ltb, le-ltb}
use Rattle.chains.specs.declared.Chains.{Chains}
use Rattle.chains.specs.Chains.{first_in, next_in, linked, list_in}

linked-none : (c : Chains) (ws : List ℕ) (m : ℕ) → linked c ws m None ≡ []
unfolding linked
linked-none c ws zero = refl
linked-none c ws (suc m) = refl

-- k items of the list, and those from one on
pub record Hopping (c : Chains) (ws : List ℕ) (b n k : ℕ) (at : Option ℕ) : Type 0 where
  pub items : length (list_in c ws (n + 1) b) ≡ k + length (linked c ws (n + 1 - k) at)
  pub upto : k ≤ n

module _ (c : Chains) (ws : List ℕ) (b n : ℕ) where
  pub hopping-starts : (at : Option ℕ) → at ≡ first_in c ws b → Hopping c ws b n 0 at
  hopping-starts at e = record { items = let z : n + 1 - 0 ≡ n + 1 = omega arith in rw (z, e) (omega arith); upto = omega arith }

  module _ (k : ℕ) (at : Option ℕ) (g : Hopping c ws b n k at) where
    pub hopping-stops : at ≡ None → false ≡ ltb n (length (list_in c ws (n + 1) b))
    hopping-stops e =
        let none : length (linked c ws (n + 1 - k) at) ≡ 0 =
        ap (λ (o : Option ℕ). length (linked c ws (n + 1 - k) o)) e ∙ ap length (linked-none c ws (n + 1 - k)) in
        let items : length (list_in c ws (n + 1) b) ≡ k + length (linked c ws (n + 1 - k) at) = g.items in
        let upto : k ≤ n = g.upto in
        sym (le-ltb n (length (list_in c ws (n + 1) b)) (omega arith))

    pub hopping-more : (i : ℕ) (at' : Option ℕ) → k < n → at ≡ Some i → at' ≡ next_in c ws i → Hopping c ws b n (k + 1) at'
    unfolding linked
    hopping-more i at' l e f =
        let z : n + 1 - k ≡ suc (n + 1 - (k + 1)) = omega arith in
        let rest : length (linked c ws (n + 1 - k) at) ≡ suc (length (linked c ws (n + 1 - (k + 1)) at')) =
        rw (z, e, f) refl in
        record { items = g.items ∙ rw rest (omega arith); upto = omega arith }

    pub hopping-ends : (y : Bool) → n ≤ k → y ≡ is_some at → y ≡ ltb n (length (list_in c ws (n + 1) b))
    unfolding linked
    hopping-ends y l e = e ∙ go at refl
      where
        one : n + 1 - k ≡ 1
        one = let upto : k ≤ n = g.upto in omega arith

        items : (o : Option ℕ) → at ≡ o → length (list_in c ws (n + 1) b) ≡ k + length (linked c ws 1 o)
        items o q = g.items ∙ rw (one, q)

        go : (o : Option ℕ) → at ≡ o → is_some at ≡ ltb n (length (list_in c ws (n + 1) b))
        go None q =
            let m : length (list_in c ws (n + 1) b) ≡ k + 0 = items None q in
            let upto : k ≤ n = g.upto in
            rw q (sym (le-ltb n (length (list_in c ws (n + 1) b)) (omega arith)))
        go (Some i) q =
            let m : length (list_in c ws (n + 1) b) ≡ k + 1 = items (Some i) q in
            rw q (sym (lt-ltb n (length (list_in c ws (n + 1) b)) (omega arith)))
