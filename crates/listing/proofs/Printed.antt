-- What is printed for each answer of rewriting. Assumes nothing.
use Rattle.refusals.specs.Refusals.{Verdict}
use Rattle.std.proofs.Common.{◌≡◌, sym, ap, ◌∙◌, List, ◌++◌, ℕ, ◌+◌, ◌≤◌, Result, Ok, Err, length, take, drop, arith, length-append, take_at, length-take-le}
use lib.Seq.{sets-eq}
use Rattle.refusals.specs.declared.Refusal.{Refusal}
use Rattle.design.specs.Queue.{find_new_cell}
use Rattle.calls.proofs.Answers.{answered, turned_away}
use Rattle.calls.specs.Calls.{put, reply_after, rewrite_verdict, rewrite_answer, rewrite_bytes, rewrite_reply}
use Rattle.lines.specs.Lines.{lines_of, refusal_line}
use Rattle.text.specs.Text.{Puts}
use Rattle.listing.specs.Printed.{printed_by, printed}

-- as many elements as are asked for, where there are so many
pub counted : (n : ℕ) (l : List ℕ) → n ≤ length l → n ≡ length (take n l)
counted n l h = sym (length-take-le n l h)

-- what is put at the start of a text is the text up to the next place
shown : (most n : ℕ) (t u xs : List ℕ) → Puts most t u 0 xs n → most ≤ length t → take n u ≡ xs
shown most n t u xs p h =
    ap (take n) (p.stored ∙ sets-eq xs t 0 (omega (arith, p.within)))
    ∙ take_at xs (drop (0 + length xs) t) n (omega (arith, p.place))

module _ (words : ℕ) (t reply : List ℕ) (w : Result ℕ Refusal) (is : w ≡ rewrite_answer find_new_cell words t reply) where
  abbrev verdict : Verdict
  verdict = rewrite_verdict find_new_cell words t reply

  abbrev bytes : List ℕ
  bytes = rewrite_bytes find_new_cell t

  -- ---- an accepted ticket: the reply's first bytes are the result
  module _ (n : ℕ) (accepted : w ≡ Ok n) (after : List ℕ) (left : after ≡ rewrite_reply find_new_cell words t reply) where
    passes : (verdict ≡ Ok tt) × (n ≡ length bytes)
    unfolding rewrite_answer
    passes = answered verdict (length bytes) n (sym is ∙ accepted)

    delivered : after ≡ bytes ++ drop (length bytes) reply
    unfolding rewrite_reply put
    delivered = left ∙ ap (λ (v : Verdict). reply_after v reply bytes) passes.0

    pub accepted-inside : n ≤ length after
    accepted-inside = omega (arith, passes.1, ap length delivered, length-append bytes (drop (length bytes) reply))

    result : take n after ≡ bytes
    result = ap (take n) delivered ∙ take_at bytes (drop (length bytes) reply) n (sym passes.1)

    pub accepted-printed : (m : ℕ) (text text' : List ℕ) → 81920 ≤ length text → Puts 81920 text text' 0 (lines_of (take n after)) m → take m text' ≡ printed words t reply
    unfolding printed
    accepted-printed m text text' long p =
        shown 81920 m text text' (lines_of (take n after)) p long ∙ ap lines_of result ∙ sym (ap (λ (v : Verdict). printed_by v bytes) passes.0)

  -- ---- a refusal
  pub refused-printed : (x : Refusal) → w ≡ Err x → (m : ℕ) (text text' : List ℕ) → 81920 ≤ length text → Puts 80 text text' 0 (refusal_line x) m → take m text' ≡ printed words t reply
  unfolding rewrite_answer printed
  refused-printed x e m text text' long p =
      shown 80 m text text' (refusal_line x) p (omega arith) ∙ sym (ap (λ (v : Verdict). printed_by v bytes) (turned_away verdict (length bytes) x (sym is ∙ e)))
