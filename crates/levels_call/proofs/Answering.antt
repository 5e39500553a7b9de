-- The call `levels`: the stimulus, the levels written, and the stages in turn. Assumes nothing.
use mathlib.Core.Path.{◌≡◌, refl, sym, ap, ap₂, ◌∙◌}
use mathlib.Core.List.{List, [], ◌∷◌, ◌++◌, map, append_assoc}
use Prim.Native.Nat.{ℕ, ◌<◌, ◌≤◌}
use native.Mathlib.Omega.{arith}
use lib.ListN.{length, get_or, length-map}
use Rattle.std.specs.Prelude.{Ok, Err, Result}
use Rattle.std.specs.Result.{IsErrAnd}
use Rattle.logic.specs.declared.Trit.{Trit}
use Rattle.logic.specs.declared.Trit.TheVariants.{Undef}
use Rattle.logic.specs.Levels.{byte_of}
use Rattle.cell.specs.declared.Cell.{Cell}
use Rattle.cell.specs.declared.Record.{Record}
use Rattle.cell.specs.Records.{records_of, cell_of}
use Rattle.basics.proofs.Tables.{tabulate-length}
use Rattle.netlist.specs.Netlist.{netlist_of}
use Rattle.netlist.specs.inner.Areas.{word_record, records_in, Within, mixes_at, visited_at}
use Rattle.netlist.proofs.Frames.{within-drop, records-kept}
use Rattle.levels.specs.Evaluate.{given_levels, output_slots}
use Rattle.levels.specs.Fold.{cells_in, of_kind, levels_at, bit_levels, bit_outputs}
use Rattle.levels.proofs.Slots.{output-slots}
use Rattle.loops.proofs.Rank.{rank}
use Rattle.levels_laws.specs.Algebra.{Ranked}
use Rattle.kept.proofs.Accepted.{accepted-sound}
use Rattle.fold_laws.proofs.Levels.{bit-outputs}
use Rattle.refusals.specs.declared.Refusal.{Refusal}
use Rattle.refusals.specs.declared.Refusal.TheVariants.{ShortReply}
use Rattle.refusals.specs.Refusals.{first_of}
use Rattle.checking.specs.Checking.{netlist_stages, check_stages}
use Rattle.calls.specs.Calls.{put, room, decoded, level_bytes, stimulus_stages, level_verdict}
use Rattle.delivery.specs.inner.Delivery.{Loaded, Delivers}
use Rattle.delivery.proofs.Deciding.{refused-writes, passed-writes}
use Rattle.delivery.proofs.Delivering.{delivers-none, delivers-all}
use Rattle.levels_call.specs.inner.Levels.{written_levels, bit_bytes, level_stages, Levels}

-- 12, or the levels
map-map : (f : Trit → ℕ) (g : ℕ → Trit) (xs : List ℕ) → map f (map g xs) ≡ map (λ x. f (g x)) xs
map-map f g [] = refl
map-map f g (x ∷ xs) = ap (λ (l : List ℕ). f (g x) ∷ l) (map-map f g xs)

module _ (n : ℕ) (ws bs reply : List ℕ) (count : ℕ) (e : count ≡ length (of_kind 2 (records_in n ws))) where
  abbrev bytes : List ℕ
  bytes = bit_bytes n ws bs

  bytes-are : bytes ≡ map (λ s. byte_of (get_or (bit_levels (cells_in n ws) (given_levels (cells_in n ws) bs)) s Undef)) (of_kind 2 (records_in n ws))
  unfolding bit_outputs
  bytes-are = map-map byte_of (λ s. get_or (bit_levels (cells_in n ws) (given_levels (cells_in n ws) bs)) s Undef) (output_slots (cells_in n ws)) ∙ ap (map _) (output-slots n ws)

  bytes_count : length bytes ≡ count
  bytes_count = ap length bytes-are ∙ length-map (of_kind 2 (records_in n ws)) _ ∙ sym e

  pub short-reply : length reply < count → Delivers bytes ws ws reply reply (Err ShortReply)
  short-reply h = delivers-none bytes ws ws reply count bytes_count refl h

  module _ (ws' : List ℕ) (w : Within visited_at mixes_at ws ws') (few : n ≤ 512) where
    outputs-kept : of_kind 2 (records_in n ws') ≡ of_kind 2 (records_in n ws)
    outputs-kept = ap (of_kind 2) (records-kept visited_at mixes_at ws ws' w n (omega arith))

    pub reply-room : count ≤ length reply → length (of_kind 2 (records_in n ws')) ≤ length reply
    reply-room h = rw outputs-kept (omega (arith, e))

    pub levels-written : count ≤ length reply → levels_at n ws' ≡ bit_levels (cells_in n ws) (given_levels (cells_in n ws) bs)
        → (reply' : List ℕ) → reply' ≡ put reply (written_levels n ws') → Delivers bytes ws ws' reply reply' (Ok count)
    unfolding written_levels
    levels-written h f reply' g =
        delivers-all bytes ws ws' reply count bytes_count (within-drop visited_at mixes_at 16384 ws ws' (omega arith) w) h reply'
        (g ∙ ap (put reply) (ap₂ (λ (ls : List Trit) (ss : List ℕ). map (λ s. byte_of (get_or ls s Undef)) ss) f outputs-kept ∙ sym bytes-are))

-- 10 to 12
module _ (t : List ℕ) (n : ℕ) (ws : List ℕ) (p : Loaded n ws) (loaded : records_in n ws ≡ records_of t) (stimulus reply : List ℕ) where
  abbrev cells : List Cell
  cells = (decoded t).cells

  abbrev result : List ℕ
  result = level_bytes t stimulus

  ranked : Ranked cells (rank (records_of t))
  unfolding records_in
  ranked =
      let few : n ≤ 512 = p.few in
      let count : length (records_of t) ≡ n = ap length (sym loaded) ∙ tabulate-length (word_record ws) n in
      (accepted-sound (records_of t) (omega arith) (ap (λ (rs : List Record). first_of (netlist_stages rs)) (sym loaded) ∙ p.pass)).ranked

  same-cells : cells_in n ws ≡ cells
  unfolding netlist_of
  same-cells = ap (map cell_of) loaded

  same-verdict : first_of (stimulus_stages (cells_in n ws) stimulus) ≡ first_of (stimulus_stages cells stimulus)
  same-verdict = ap (λ (cs : List Cell). first_of (stimulus_stages cs stimulus)) same-cells

  pub stimulus-refused : (x : Refusal) → Err x ≡ first_of (stimulus_stages (cells_in n ws) stimulus) → (r : Result ℕ Refusal) → IsErrAnd r (λ y. y ≡ x)
      → Levels t stimulus ws ws reply reply r
  unfolding level_stages
  stimulus-refused x e r q = refused-writes (stimulus_stages cells stimulus) result ws ws reply refl x (e ∙ same-verdict) r q

  pub stimulus-passed : Ok tt ≡ first_of (stimulus_stages (cells_in n ws) stimulus) → (ws' reply' : List ℕ) (r : Result ℕ Refusal)
      → Delivers (bit_bytes n ws stimulus) ws ws' reply reply' r → Levels t stimulus ws ws' reply reply' r
  unfolding level_stages level_bytes
  stimulus-passed e ws' reply' r d =
      let same : bit_bytes n ws stimulus ≡ result =
      ap (map byte_of) (ap (λ (cs : List Cell). bit_outputs cs stimulus) same-cells ∙ bit-outputs cells (rank (records_of t)) ranked stimulus) in
      passed-writes (stimulus_stages cells stimulus) result ws ws reply refl (e ∙ same-verdict) (bit_bytes n ws stimulus) ws' reply' r same d

-- the stages of the call: 1 to 8 first
pub in_turn : (words : ℕ) (t stimulus reply : List ℕ) → first_of (check_stages words t ++ level_stages t stimulus reply) ≡ level_verdict words t stimulus reply
unfolding level_verdict level_stages
in_turn words t stimulus reply =
    ap first_of (sym (append_assoc (check_stages words t) (stimulus_stages (decoded t).cells stimulus) (room reply (level_bytes t stimulus) ∷ [])))
