-- What a call that fills lent output answers and leaves: how each of its returns meets the one definition `lent`, and what a caller
-- has of it.
-- Assumes nothing.
use mathlib.Core.Path.{◌≡◌, refl, ap, ◌∙◌}
use Prim.Native.Nat.{ℕ, ◌≤◌, ◌<◌}
use mathlib.Core.Bool.{Bool, true, false, cond}
use native.Mathlib.Omega.{arith}
use mathlib.Core.List.{List, [], ◌++◌}
use lib.Dec.{leb}
use lib.ListN.{length, take, drop}
use lib.Seq.{take-append_seam, drop-append_seam}
use borrow.Author.Tests.{le-leb, lt-leb}
use Rattle.answers.specs.Answer.{Answer, given, refused, lent}
use Rattle.lists.specs.Writing.{Room, Wrote}
use Rattle.answers.specs.Lent.{Lent}
use Rattle.std.specs.Prelude.{Result, Ok, Err}
use Rattle.answers.specs.Refusals.{number_of}
use Rattle.answers.specs.declared.Refusal.{Refusal}
use Rattle.answers.specs.declared.Reason.TheVariants.{OutputShort}
use Rattle.lists.proofs.Writing.{splice_front, splice-none, room_by}

-- ---- what `lent` comes to

cond-true : {A : Type 0} (test : Bool) (x y : A) → test ≡ true → cond test x y ≡ x
cond-true test x y e = ap (λ t. cond t x y) e

cond-false : {A : Type 0} (test : Bool) (x y : A) → test ≡ false → cond test x y ≡ y
cond-false test x y e = ap (λ t. cond t x y) e

module _ (old bytes : List ℕ) where
  lent_fits : length bytes ≤ length old → lent old (given bytes) ≡ (given (length bytes), bytes ++ drop (length bytes) old)
  unfolding lent
  lent_fits h = cond-true _ _ _ (le-leb (length bytes) (length old) h)

  lent-short : length old < length bytes → lent old (given bytes) ≡ (refused 8 (length bytes), old)
  unfolding lent
  lent-short h = cond-false _ _ _ (lt-leb (length bytes) (length old) h)

  -- either way, what lies beyond the bytes is as it was
  lent-beyond : drop (length bytes) (lent old (given bytes)).1 ≡ drop (length bytes) old
  unfolding lent
  lent-beyond = by (leb (length bytes) (length old))
    where
      by : (fits : Bool) → drop (length bytes) (cond {A = Answer ℕ × List ℕ} fits (given (length bytes), bytes ++ drop (length bytes) old) (refused 8 (length bytes), old)).1 ≡ drop (length bytes) old
      by true = drop-append_seam bytes (drop (length bytes) old)
      by false = refl

-- ---- the returns of a call

module _ {old : List ℕ} {answer : Answer (List ℕ)} where
  -- any refusal: the output is as it was
  pub refusal : {r : Refusal} → answer ≡ refused (number_of r.reason) r.place → Lent old answer old (Err r)
  unfolding lent
  refusal e = record { meets = rw e }

  module _ {bytes : List ℕ} (result : answer ≡ given bytes) where
    -- the bytes do not fit: 8, with the bytes needed, and the output is as it was
    pub too_short : {n : ℕ} → n ≡ length bytes → length old < n → Lent old answer old (Err (record { reason = OutputShort; place = n }))
    too_short e h = record { meets = rw (result, lent-short old bytes (rw e at h), e) }

    -- they fit, and were written from the front on
    pub written : {n : ℕ} {after : List ℕ} {next : ℕ} → n ≡ length bytes → n ≤ length old → Wrote old 0 bytes after next → Lent old answer after (Ok n)
    written e h w =
        let fits : length bytes ≤ length old = rw e at h in
        record { meets = rw (result, lent_fits old bytes fits, e, w.bytes, splice_front bytes old fits) }

    -- ---- what a caller has

    -- where the bytes fit, they stand at the front of the output
    pub front : {after : List ℕ} {r : Result ℕ Refusal} → length bytes ≤ length old → Lent old answer after r → take (length bytes) after ≡ bytes
    front {after} {r} h l =
        ap (λ (z : Answer ℕ × List ℕ). take (length bytes) z.1) l.meets
        ∙ rw (result, lent_fits old bytes h) (take-append_seam bytes (drop (length bytes) old))

    -- what lies beyond them is as it was, whether they fit or not
    pub beyond : {after : List ℕ} {r : Result ℕ Refusal} → Lent old answer after r → drop (length bytes) after ≡ drop (length bytes) old
    beyond {after} {r} l =
        ap (λ (z : Answer ℕ × List ℕ). drop (length bytes) z.1) l.meets
        ∙ rw result (lent-beyond old bytes)

-- ---- a call that counts bytes, as many as its result has, on the first 0 bytes of the output, and then writes the result

module _ (old : List ℕ) {answer : Answer (List ℕ)} {bytes others none : List ℕ} {n : ℕ} (result : answer ≡ given bytes) (same : length others ≡ length bytes)
    (count : Wrote [] 0 others none n) where
  as_it_was : none ++ old ≡ old
  as_it_was = ap (λ (z : List ℕ). z ++ old) (count.bytes ∙ splice-none others [] 0 refl)

  counted : n ≡ length bytes
  counted = omega (arith, count.place, same)

  pub counted-short : length (none ++ old) < n → Lent old answer (none ++ old) (Err (record { reason = OutputShort; place = n }))
  counted-short h = rw as_it_was (too_short result counted (rw as_it_was at h))

  pub counted-room : n ≤ length (none ++ old) → Room (none ++ old) 0 bytes
  counted-room h = room_by (omega (arith, h, counted))

  pub counted-written : n ≤ length (none ++ old) → {after : List ℕ} {next : ℕ} → Wrote (none ++ old) 0 bytes after next → Lent old answer after (Ok n)
  counted-written h w = written result counted (rw as_it_was at h) (rw as_it_was at w)
