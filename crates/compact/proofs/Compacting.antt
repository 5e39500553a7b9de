-- The records of the slots that are kept, under their new numbers. Assumes nothing.
use mathlib.Core.Path.{◌≡◌, refl, sym, ap, ap₂, ◌∙◌}
use mathlib.Core.Bool.{Bool, true, false, cond}
use mathlib.Core.List.{List, [], ◌∷◌, ◌++◌, map, append-nil}
use Prim.Native.Nat.{ℕ, suc, ◌+◌, ◌*◌, ◌<◌, ◌≤◌}
use native.Mathlib.Omega.{arith}
use native.Mathlib.Numerals.{add-one}
use lib.ListN.{length, get_or, length-map}
use lib.Seq.{sets, length-sets}
use Rattle.logic.specs.declared.Trit.{Trit}
use Rattle.value.specs.declared.Net.{Net}
use Rattle.value.specs.declared.Slot.{Slot}
use Rattle.value.specs.declared.Driver.{Driver}
use Rattle.value.specs.declared.Driver.TheVariants as driven
use Rattle.value.specs.Value.{net_at, driver}
use Rattle.cell.specs.declared.Record.{Record}
use Rattle.cell.specs.declared.Cell.{Cell}
use Rattle.cell.specs.declared.Cell.TheVariants.{Input}
use Rattle.basics.specs.Lists.{tabulate, those, joined}
use Rattle.cell.specs.Records.{cell_of, cell_record, bytes_of}
use Rattle.cell.proofs.Laws.{sets-append}
use Rattle.basics.proofs.Tables.{map-append, map_at, tabulate-map}
use Rattle.basics.proofs.Those.{map-slots-same}
use Rattle.netlist.specs.inner.Areas.{word_record, marks_in, visited_at}
use Rattle.netlist.specs.Shape.{visit_mut}
use Rattle.netlist.specs.Netlist.{cell_in, encode, ticket_of}
use Rattle.compact.specs.Compact.{keep, kept_slots, count_kept, net_map, compact}
use Rattle.design.specs.inner.Words.{netlist_in}
use Rattle.compact.specs.inner.Words.{renumbered_in, Tallied, kept_at, kept_in, renumbered_record, kept_bytes}
use Rattle.netlist.specs.inner.Fields.{renamed_fields, renamed_record}
use Rattle.netlist.proofs.Operands.{renamed-plain}
use Rattle.compact.proofs.Lists.{ticket-append, ticket-length}
use Rattle.compact.proofs.Tally.{kept_more, kept-below, all-is-count}
use Rattle.design.proofs.Words.{cells-length, bit_at, cell_at}

-- a net's new number
module _ (n : ℕ) (ws : List ℕ) (x : Net) (d : Driver) (d-is : d ≡ driver x) where
  pub map-const : (t : Trit) → d ≡ driven.Const t → x ≡ renumbered_in n ws x
  unfolding net_map
  map-const t e = rw (← d-is, e)

  pub map-cell : (s : Slot) → d ≡ driven.Cell s → (k : ℕ) → k ≡ kept_in n ws s.0 → (y : Net) → y ≡ net_at (k + 2) → y ≡ renumbered_in n ws x
  unfolding net_map
  map-cell s e k f y g = g ∙ rw (← d-is, e, f)

-- the records of the kept slots
abbrev kept_records : ℕ → List ℕ → ℕ → List Record
kept_records n ws s = map (renumbered_record n ws) (kept_slots (netlist_in n ws).bits (marks_in visited_at n ws) s)

encode-map : (f : ℕ → Cell) (g : ℕ → ℕ) (xs : List ℕ) → encode (record { cells = map f xs; bits = map g xs }) ≡ map (λ x. cell_record (g x) (f x)) xs
unfolding encode
encode-map f g xs =
    let at : ℕ → Record = λ i. cell_record (get_or (map g xs) i 0) (get_or (map f xs) i (Input 0)) in
    ap (tabulate at) (length-map xs f)
    ∙ tabulate-map (λ x. cell_record (g x) (f x)) at xs 0 (λ i l. ap₂ cell_record (map_at g xs i 0 0 l) (map_at f xs i (Input 0) 0 l))

module _ (n : ℕ) (ws : List ℕ) (kept : marks_in visited_at n ws ≡ keep (netlist_in n ws)) where
  -- the definition by the marks
  by-marks : encode (compact (netlist_in n ws))
      ≡ map (λ s. cell_record (get_or (netlist_in n ws).bits s 0) (visit_mut (net_map (netlist_in n ws).bits (marks_in visited_at n ws)) (cell_in (netlist_in n ws).cells s)))
      (kept_slots (netlist_in n ws).bits (marks_in visited_at n ws) n)
  unfolding compact
  by-marks =
      encode-map _ _ (kept_slots (netlist_in n ws).bits (keep (netlist_in n ws)) (length (netlist_in n ws).cells)) ∙ rw (← kept, cells-length n ws)

  pub compact-records : encode (compact (netlist_in n ws)) ≡ kept_records n ws n
  unfolding kept_slots renamed_record
  compact-records =
      by-marks ∙ map-slots-same _ _ (renumbered_record n ws) n
      (λ s l. ap₂ (λ (b : ℕ) (c : Cell). cell_record b (visit_mut (net_map (netlist_in n ws).bits (marks_in visited_at n ws)) c)) (bit_at n ws s l) (cell_at n ws s l))

  pub compact-length : length (ticket_of (encode (compact (netlist_in n ws)))) ≡ kept_in n ws n * 16
  unfolding count_kept
  compact-length =
      ap (λ (rs : List Record). length (ticket_of rs)) compact-records ∙ ticket-length (kept_records n ws n)
      ∙ ap (λ (k : ℕ). k * 16) (length-map (kept_slots (netlist_in n ws).bits (marks_in visited_at n ws) n) (renumbered_record n ws))

-- a slot's bytes
module _ (n : ℕ) (ws : List ℕ) (s : ℕ) (b : Bool) (b-is : b ≡ kept_at n ws s) where
  module _ (e : b ≡ true) where
    pub copied : (q : Record) → q ≡ word_record ws s → (p : Record) → p ≡ cell_record q.bit (cell_of q) → (r : Record) → r ≡ renamed_fields (renumbered_in n ws) p → (at : ℕ) → at ≡ kept_in n ws s → (reply reply' : List ℕ) → reply' ≡ sets reply (at * 16) (bytes_of r) → reply' ≡ sets reply (kept_in n ws s * 16) (kept_bytes n ws s)
    unfolding kept_bytes
    copied q i p h r f at a reply reply' g =
        let new : r ≡ renumbered_record n ws s = f ∙ renamed-plain (renumbered_in n ws) q p h ∙ ap (renamed_record (renumbered_in n ws)) i in
        g ∙ rw (← b-is, e, new, a)

    -- a kept slot's number is below the total
    pub copied-inside : (total : ℕ) → Tallied n total ws → s < n → (at : ℕ) → at ≡ kept_in n ws s → (reply : List ℕ) → total * 16 ≤ length reply → at * 16 + 16 ≤ length reply
    copied-inside total g l at a reply h =
        let one : ◌≡◌ {A = ℕ} (cond (kept_at n ws s) 1 0) 1 = ap (λ (c : Bool). cond c 1 0) (sym b-is ∙ e) in
        omega (arith, kept-below n ws s n l, one, a, h, all-is-count n total ws g)

  module _ (e : b ≡ false) where
    pub passed : (reply : List ℕ) → reply ≡ sets reply (kept_in n ws s * 16) (kept_bytes n ws s)
    unfolding kept_bytes
    passed reply = rw (← b-is, e)

-- the loop of `compact`
pub record Writing (n : ℕ) (ws reply₀ reply : List ℕ) (s : ℕ) : Type 0 where
  pub same : length reply ≡ length reply₀
  pub written : reply ≡ sets reply₀ 0 (ticket_of (kept_records n ws s))

pub writing-none : (n : ℕ) (ws reply : List ℕ) → Writing n ws reply reply 0
unfolding kept_slots tabulate those ticket_of joined
writing-none n ws reply = record { same = refl; written = refl }

module _ (n : ℕ) (ws : List ℕ) (s : ℕ) where
  one-record : (b : Bool) → ticket_of (map (renumbered_record n ws) (cond b (s ∷ []) [])) ≡ cond b (bytes_of (renumbered_record n ws s)) []
  unfolding ticket_of joined
  one-record true = append-nil (bytes_of (renumbered_record n ws s))
  one-record false = refl

  bytes-more : ticket_of (kept_records n ws (suc s)) ≡ ticket_of (kept_records n ws s) ++ kept_bytes n ws s
  unfolding kept_bytes
  bytes-more =
      let R : ℕ → Record = renumbered_record n ws in
      let K : List ℕ = kept_slots (netlist_in n ws).bits (marks_in visited_at n ws) s in
      let k : Bool = kept_at n ws s in
      ap (λ (xs : List ℕ). ticket_of (map R xs)) (kept_more (netlist_in n ws).bits (marks_in visited_at n ws) s) ∙ ap ticket_of (map-append R K (cond k (s ∷ []) []))
      ∙ ticket-append (map R K) (map R (cond k (s ∷ []) [])) ∙ ap (λ (l : List ℕ). ticket_of (map R K) ++ l) (one-record k)

  bytes-so-far : length (ticket_of (kept_records n ws s)) ≡ kept_in n ws s * 16
  unfolding count_kept
  bytes-so-far =
      ticket-length (kept_records n ws s)
      ∙ ap (λ (k : ℕ). k * 16) (length-map (kept_slots (netlist_in n ws).bits (marks_in visited_at n ws) s) (renumbered_record n ws))

  module _ (reply₀ reply : List ℕ) (g : Writing n ws reply₀ reply s) where
    pub writing-room : (total : ℕ) → total * 16 ≤ length reply₀ → total * 16 ≤ length reply
    writing-room total h = omega (arith, g.same)

    pub writing_more : s < n → (reply' : List ℕ) → reply' ≡ sets reply (kept_in n ws s * 16) (kept_bytes n ws s) → Writing n ws reply₀ reply' (s + 1)
    writing_more l reply' f = record {
      same = ap length f ∙ length-sets reply (kept_in n ws s * 16) (kept_bytes n ws s) ∙ g.same;
      written =
          let so_far : List ℕ = ticket_of (kept_records n ws s) in
          let place : kept_in n ws s * 16 ≡ 0 + length so_far = omega (arith, bytes-so-far) in
          rw (add-one s) (f ∙ ap₂ (λ (l : List ℕ) (i : ℕ). sets l i (kept_bytes n ws s)) g.written place
          ∙ sym (ap (sets reply₀ 0) bytes-more ∙ sets-append reply₀ 0 so_far (kept_bytes n ws s)));
    }

    pub writing-all : s ≤ n → n ≤ s → marks_in visited_at n ws ≡ keep (netlist_in n ws) → reply ≡ sets reply₀ 0 (ticket_of (encode (compact (netlist_in n ws))))
    writing-all m h kept =
        g.written ∙ ap (λ (k : ℕ). sets reply₀ 0 (ticket_of (kept_records n ws k))) (let e : s ≡ n = omega arith in e)
        ∙ ap (λ (rs : List Record). sets reply₀ 0 (ticket_of rs)) (sym (compact-records n ws kept))
