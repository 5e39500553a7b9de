-- Laws of text that is put together: one piece behind the other, and number by number. Assumes nothing.
use mathlib.Core.Path.{◌≡◌, refl, sym, ap, ◌∙◌, subst}
use mathlib.Core.List.{List, [], ◌∷◌, ◌++◌, append_assoc, append-nil}
use Prim.Native.Nat.{ℕ, ◌+◌, ◌*◌, ◌^◌, ◌<◌, ◌≤◌}
use native.Mathlib.Omega.{arith}
use native.Mathlib.Numerals.{add-one}
use lib.ListN.{length, get_or, set, take, drop, length-append, length-set}
use borrow.Author.Tests.{eq-eqb, ne_eqb}
use lib.Seq.{sets, sets-eq, length-sets, take-suc, take_all}
use Rattle.cell.proofs.Laws.{sets-append}
use Rattle.cell.specs.declared.Record.{Record}
use Rattle.refusals.specs.declared.Refusal.{Refusal}
use Rattle.refusals.specs.declared.Refusal.TheVariants.{ShortWork, PartialRecord, TooManyRecords, UnknownKind, ReservedField, BitOutOfSequence, UndrivenOperand, Loop, SlotsExhausted, LevelCount, LevelValue, ShortReply}
use Rattle.value.specs.declared.Slot.{Slot}
use Rattle.refusals.specs.declared.Figures.{Figures}
use Rattle.refusals.specs.Refusals.{figures}
use borrow.Rule.Slice.PartMut.{put_mid}
use Rattle.std.specs.Fmt.{decimal as displayed}
use Rattle.std.proofs.lemmas.Slice.{put_mid-paste}
use Rattle.lines.specs.Decimal.{decimal}
use Rattle.lines.specs.Lines.{spaced, to_end, record_line, refused_word, refusal_numbers, refusal_line}
use Rattle.text.specs.Text.{Puts}
use Rattle.lines.proofs.Decimal.{as-displayed, ten-digits}

-- one piece behind the other
pub puts_then : (k l most : ℕ) (t u v : List ℕ) (at m n : ℕ) (xs ys : List ℕ) → k + l ≤ most → Puts k t u at xs m → Puts l u v m ys n → Puts most t v at (xs ++ ys) n
puts_then k l most t u v at m n xs ys h p q = record {
  stored = q.stored ∙ ap (λ (l : List ℕ). sets l m ys) p.stored ∙ ap (λ (k : ℕ). sets (sets t at xs) k ys) p.place ∙ sym (sets-append t at xs ys);
  place = omega (arith, p.place, q.place, length-append xs ys);
  within = omega (arith, p.within, q.within, length-append xs ys);
}

pub puts-length : (k : ℕ) (t u : List ℕ) (at n : ℕ) (xs : List ℕ) → Puts k t u at xs n → length u ≡ length t
puts-length k t u at n xs p = ap length p.stored ∙ length-sets t at xs

-- ---- bytes copied to their place
pub copied : (t u bytes : List ℕ) (at k : ℕ) → u ≡ bytes → length bytes ≡ k → at + length bytes ≤ length t → Puts (length bytes) t (put_mid at k t u) at bytes (at + length bytes)
copied t u bytes at k e h room = record {
  stored =
      put_mid-paste at k t u bytes (length bytes) e h refl
      ∙ ap (λ (s : List ℕ). take at t ++ s ++ drop (at + length bytes) t) (take_all (length bytes) bytes (omega arith))
      ∙ sym (sets-eq bytes t at room);
  place = refl;
  within = omega arith;
}

-- ---- a number: its digits, which are those that `{}` writes, are ten at most
pub number_put : (t u ds : List ℕ) (at n x : ℕ) → x < 2 ^ 32 → ds ≡ displayed x → Puts (length ds) t u at ds n → Puts 10 t u at (decimal x) n
number_put t u ds at n x small e p =
    let is : ds ≡ decimal x = e ∙ as-displayed x (omega arith) in
    subst (λ (s : List ℕ). Puts 10 t u at s n) is
    record { stored = p.stored; place = p.place; within = omega (arith, ap length is, ten-digits x small) }

-- ---- number by number: what stands in the text before number i
spaced-last : (ns : List ℕ) (x : ℕ) → spaced (ns ++ (x ∷ [])) ≡ spaced ns ++ (32 ∷ decimal x)
unfolding spaced
spaced-last [] x = append-nil (32 ∷ decimal x)
spaced-last (n ∷ ns) x = ap (λ (ds : List ℕ). (32 ∷ decimal n) ++ ds) (spaced-last ns x) ∙ sym (append_assoc (32 ∷ decimal n) (spaced ns) (32 ∷ decimal x))

pub record Spacing (numbers t u : List ℕ) (at n i : ℕ) : Type 0 where
  pub fits : at + (11 * length numbers + 1) ≤ length u
  pub upto : i ≤ length numbers
  pub puts : Puts (11 * i) t u at (spaced (take i numbers)) n

-- a byte by itself
put_byte : (t : List ℕ) (at b : ℕ) → Puts 1 t (set t at b) at (b ∷ []) (at + 1)
put_byte t at b = record { stored = refl; place = refl; within = omega arith }

module _ (numbers t : List ℕ) (at : ℕ) where
  pub spacing-none : at + (11 * length numbers + 1) ≤ length t → Spacing numbers t t at at 0
  unfolding spaced
  spacing-none h = record { fits = h; upto = omega arith; puts = record { stored = refl; place = omega arith; within = omega arith } }

  module _ (u : List ℕ) (n i : ℕ) (s : Spacing numbers t u at n i) where
    pub spacing-length : length u ≡ length t
    spacing-length = puts-length (11 * i) t u at n (spaced (take i numbers)) s.puts

    pub spacing-room : i < length numbers → (b : ℕ) → n + 1 + 10 ≤ length (set u n b)
    spacing-room h b = omega (arith, s.fits, s.puts.place, s.puts.within, length-set u n b)

    pub spacing-more : i < length numbers → (v : List ℕ) (m : ℕ) → Puts 10 (set u n 32) v (n + 1) (decimal (get_or numbers i 0)) m → Spacing numbers t v at m (i + 1)
    spacing-more h v m p =
        let x = get_or numbers i 0 in
        record {
          fits = omega (arith, s.fits, length-set u n 32, puts-length 10 (set u n 32) v (n + 1) m (decimal x) p);
          upto = omega arith;
          puts =
              subst (λ (ds : List ℕ). Puts (11 * (i + 1)) t v at ds m) (sym (spaced-last (take i numbers) x) ∙ ap spaced (sym (take-suc numbers i 0 h)) ∙ ap (λ (k : ℕ). spaced (take k numbers)) (sym (add-one i)))
              (puts_then (11 * i) 11 (11 * (i + 1)) t u v at n m (spaced (take i numbers)) (32 ∷ decimal x) (omega arith) s.puts
              (puts_then 1 10 11 u (set u n 32) v n (n + 1) m (32 ∷ []) (decimal x) (omega arith) (put_byte u n 32) p));
        }

    pub spacing-all : length numbers ≤ i → Puts (11 * length numbers + 1) t (set u n 10) at (to_end numbers) (n + 1)
    spacing-all h =
        subst (λ (ns : List ℕ). Puts (11 * length numbers + 1) t (set u n 10) at (to_end ns) (n + 1)) (take_all i numbers h)
        (puts_then (11 * i) 1 (11 * length numbers + 1) t u (set u n 10) at n (n + 1) (spaced (take i numbers)) (10 ∷ []) (omega (arith, s.upto)) s.puts (put_byte u n 10))

-- 7 is the number of one refusal alone
not_7 : (x : Refusal) → ((s : Slot) (d : ℕ) → x ≡ UndrivenOperand s d → ⊥) → (figures x).number ≡ 7 → ⊥
not_7 ShortWork h i = omega (arith, i)
not_7 PartialRecord h i = omega (arith, i)
not_7 TooManyRecords h i = omega (arith, i)
not_7 (UnknownKind s) h i = omega (arith, i)
not_7 (ReservedField s) h i = omega (arith, i)
not_7 (BitOutOfSequence s) h i = omega (arith, i)
not_7 (UndrivenOperand s d) h i = h s d refl
not_7 (Loop s) h i = omega (arith, i)
not_7 SlotsExhausted h i = omega (arith, i)
not_7 LevelCount h i = omega (arith, i)
not_7 (LevelValue k) h i = omega (arith, i)
not_7 ShortReply h i = omega (arith, i)

-- ---- the two lines
module _ (t u v : List ℕ) (at m n : ℕ) where
  pub record-put : (s : ℕ) (r : Record) (kind flags bit : ℕ) → kind ≡ r.kind → flags ≡ r.flags → bit ≡ r.bit → Puts 10 t u at (decimal s) m → Puts 67 u v m (to_end (kind ∷ flags ∷ bit ∷ r.a ∷ r.b ∷ r.c ∷ [])) n
      → Puts 80 t v at (record_line s r) n
  unfolding record_line
  record-put s r kind flags bit k f b p q =
      puts_then 10 67 80 t u v at m n (decimal s) (to_end (r.kind ∷ r.flags ∷ r.bit ∷ r.a ∷ r.b ∷ r.c ∷ [])) (omega arith) p
      (subst (λ (ns : List ℕ). Puts 67 u v m (to_end ns) n) (let same : kind ∷ flags ∷ bit ∷ r.a ∷ r.b ∷ r.c ∷ [] ≡ r.kind ∷ r.flags ∷ r.bit ∷ r.a ∷ r.b ∷ r.c ∷ [] = cc in same) q)

  refusal-put : (x : Refusal) (f : Figures) → f ≡ figures x → (k : ℕ) → k ≤ 73 → (ns : List ℕ) → ns ≡ refusal_numbers f → Puts 7 t u at refused_word m → Puts k u v m (to_end ns) n
      → Puts 80 t v at (refusal_line x) n
  unfolding refusal_line
  refusal-put x f e k l ns g p q =
      subst (λ (ms : List ℕ). Puts 80 t v at (refused_word ++ to_end ms) n) (g ∙ ap refusal_numbers e)
      (puts_then 7 k 80 t u v at m n refused_word (to_end ns) (omega arith) p q)

  module _ (x : Refusal) (f : Figures) (e : f ≡ figures x) (p : Puts 7 t u at refused_word m) where
    pub undriven-put : (s : Slot) (d : ℕ) → x ≡ UndrivenOperand s d → Puts 34 u v m (to_end (f.number ∷ f.place ∷ f.field ∷ [])) n → Puts 80 t v at (refusal_line x) n
    undriven-put s d h q = refusal-put x f e 34 (omega arith) (f.number ∷ f.place ∷ f.field ∷ []) (rw (eq-eqb f.number 7 (ap (λ g. g.number) e ∙ ap (λ y. (figures y).number) h))) p q

    pub other-put : ((s : Slot) (d : ℕ) → x ≡ UndrivenOperand s d → ⊥) → Puts 23 u v m (to_end (f.number ∷ f.place ∷ [])) n → Puts 80 t v at (refusal_line x) n
    other-put h q = refusal-put x f e 23 (omega arith) (f.number ∷ f.place ∷ []) (rw (ne_eqb f.number 7 (λ i. not_7 x h (sym (ap (λ g. g.number) e) ∙ i)))) p q
