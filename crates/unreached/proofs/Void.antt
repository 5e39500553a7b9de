-- A slot that an item makes void has its net replaced, so no net that is followed to the end is its own. Assumes nothing.
use mathlib.Core.Path.{◌≡◌, refl, sym, ap, ◌∙◌, subst}
use mathlib.Core.Bool.{Bool, true, false, cond}
use mathlib.Core.List.{List, [], ◌∷◌, ◌++◌, append-nil}
use Prim.Native.Nat.{ℕ, ◌<◌}
use lib.Dec.{eqb}
use lib.ListN.{length, get_or, set}
use lib.Seq.{get_or-set_same, get_or-set_other}
use borrow.Author.Tests.{eqb-true, eqb-false}
use Rattle.value.specs.declared.Net.{Net}
use Rattle.value.proofs.Laws.{cell-driver}
use Rattle.cell.specs.declared.Cell.{Cell}
use Rattle.netlist.specs.Shape.{has_effects, is_splittable}
use Rattle.design.specs.Queue.{Design, net_in, driven_to, find_new_cell, replace_cell}
use Rattle.rewrite.specs.Rewriter.{Rewriter, finished}
use Rattle.rewrite.specs.Rewrite.{Result, none, cell, value, spent, Added, at, unadded, process_cell, add_cell, bit_done, cell_done, run_item}
use Rattle.basics.specs.Lists.{has, All}
use Rattle.order_laws.specs.Members.{Drives}
use Rattle.order_laws.specs.Ends.{Final}
use Rattle.basics.proofs.Truth.{either}
use Rattle.basics.proofs.Members.{all-imp, all_append, has_all}
use Rattle.rewrite_laws.proofs.Grows.{ExtendsResult, ExtendsAdded, process_cell-extends, add_cell-extends}
use Rattle.unreached.specs.Steps.{After, item_cell, by_value, unalived}
use Rattle.unreached.specs.Stops.{Unreplaced}

-- the nets of void slots are replaced
abbrev pub Gone : List ℕ → Design → Type 0
Gone void d = All (λ x. Unreplaced d x → ⊥) void

pub final-alive : (void : List ℕ) (d : Design) (m : Net) → Gone void d → Final d.replaced m → Drives (λ x. has x void ≡ false) m
final-alive void d m gone e x q =
    let is : m ≡ net_in x.0 = cell-driver m x q in
    let own : Unreplaced d x.0 = subst (λ (n : Net). get_or d.replaced x.0 n ≡ n) is (sym (ap (driven_to d.replaced m) q) ∙ e) in
    either (has x.0 void) (λ h. absurd (has_all (λ y. Unreplaced d y → ⊥) void gone x.0 h own)) (λ h. h)

-- an item whose net was not replaced before
module _ (s : ℕ) (r : Rewriter) (once : Unreplaced r.design s) (small : s < length r.design.replaced) (void : List ℕ) (gone : Gone void r.design) where
  no_more : (d : Design) → Gone void d → Gone (void ++ []) d
  no_more d g = subst (λ (l : List ℕ). Gone l d) (sym (append-nil void)) g

  gone_same : (d : Design) → d.replaced ≡ r.design.replaced → Gone void d
  gone_same d e =
      all-imp (λ x. Unreplaced r.design x → ⊥) (λ x. Unreplaced d x → ⊥) (λ x h q. h (ap (λ (l : List Net). get_or l x (net_in x)) (sym e) ∙ q)) void gone

  gone-set : (rs : List Net) → rs ≡ r.design.replaced → (m : Net) → All (λ x. get_or (set rs s m) x (net_in x) ≡ net_in x → ⊥) void
  gone-set rs e m =
      all-imp (λ x. Unreplaced r.design x → ⊥) (λ x. get_or (set rs s m) x (net_in x) ≡ net_in x → ⊥)
      (λ x h q. either (eqb x s) (λ b. h (subst (Unreplaced r.design) (sym (eqb-true x s b)) once))
      (λ b. h (ap (λ (l : List Net). get_or l x (net_in x)) (sym e) ∙ sym (get_or-set_other rs s x m (net_in x) (eqb-false x s b)) ∙ q))) void gone

  bit-gone : (y : Added) → ExtendsAdded find_new_cell r y → After (λ r'. Gone (void ++ []) r'.design) (bit_done s y)
  unfolding finished
  bit-gone (at m r') x = subst (All (λ x. get_or (set r'.design.replaced s m) x (net_in x) ≡ net_in x → ⊥)) (sym (append-nil void)) (gone-set r'.design.replaced x.replaced m)
  bit-gone (unadded r') x = tt

  cell-gone : (c : Cell) (x : Result) → ((m : Net) (r' : Rewriter) → x ≡ value m r' → m ≡ net_in s → ⊥) → ExtendsResult find_new_cell r x
      → After (λ r'. Gone (void ++ by_value s x) r'.design) (cell_done s c x)
  unfolding finished All
  cell-gone c (none r') other x = go (has_effects c)
    where
      go : (b : Bool) → Gone (void ++ []) (cond b r' (finished r' s r'.design (r'.cache ++ ((c, net_in s) ∷ [])))).design
      go true = no_more r'.design (gone_same r'.design x.replaced)
      go false = no_more r'.design (gone_same r'.design x.replaced)
  cell-gone c (cell e r') other x = let d : Design = replace_cell r'.design s e in no_more d (gone_same d x.replaced)
  cell-gone c (value m r') other x =
      let rs : List Net = r'.design.replaced in
      let l : s < length rs = subst (λ (l : List Net). s < length l) (sym x.replaced) small in
      all_append (λ y. get_or (set rs s m) y (net_in y) ≡ net_in y → ⊥) void (s ∷ []) (gone-set rs x.replaced m)
      ((λ q. other m r' refl (sym (get_or-set_same rs s m (net_in s) l) ∙ q)), tt)
  cell-gone c (spent r') other x = tt

  -- the law, where no cell is replaced by its own net
  pub item-gone : ((m : Net) (r' : Rewriter) → process_cell find_new_cell r (item_cell s r) ≡ value m r' → m ≡ net_in s → ⊥)
      → After (λ r'. Gone (void ++ unalived find_new_cell s r) r'.design) (run_item find_new_cell s r)
  unfolding run_item unalived
  item-gone other = go (is_splittable (item_cell s r))
    where
      c : Cell
      c = item_cell s r

      go : (b : Bool) → After (λ r'. Gone (void ++ cond b [] (by_value s (process_cell find_new_cell r c))) r'.design)
          (cond b (bit_done s (add_cell find_new_cell r c)) (cell_done s c (process_cell find_new_cell r c)))
      go true = bit-gone (add_cell find_new_cell r c) (add_cell-extends find_new_cell r c)
      go false = cell-gone c (process_cell find_new_cell r c) other (process_cell-extends find_new_cell r c)
