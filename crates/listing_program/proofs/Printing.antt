-- Which text the program prints: `no file` comes first, then `too large`.
-- Assumes nothing.
use mathlib.Core.Path.{◌≡◌, refl, sym, ap, ◌∙◌}
use Prim.Native.Nat.{ℕ, suc}
use native.Mathlib.Omega.{arith}
use mathlib.Core.Bool.{Bool, true, false, cond, ◌||◌}
use mathlib.Core.Option as math
use mathlib.Core.List.{List, [], ◌++◌}
use lib.Dec.{ltb}
use lib.ListN.{length, take, length-take}
use lib.Seq.{take_all}
use borrow.Author.Tests.{lt-ltb, ltb-true, ltb-false}
use Rattle.std.specs.Io.KnownBytes.{Appends}
use Rattle.std.proofs.Common.{Option, Some, None, Bor, append_assoc}
use Rattle.std.proofs.KnownBytes.{Appends-nil, Appends-trans}
use Rattle.model.specs.Listing.{no_file, too_large, listing, listing_program_of}
use Rattle.model.proofs.ReadingLaws.{clash}
use Rattle.listing_program.specs.Printed.{file_of}

-- ---- the text for what the two files hold
module _ (task plan : Option (Bor (List ℕ))) where
  pub prints-no-task : task ≡ None → no_file ≡ listing_program_of (file_of task) (file_of plan)
  unfolding listing_program_of
  prints-no-task e = rw e refl

  pub prints-no-plan : plan ≡ None → no_file ≡ listing_program_of (file_of task) (file_of plan)
  unfolding listing_program_of
  prints-no-plan e = rw e (go task)
    where
      go : (t : Option (Bor (List ℕ))) → no_file ≡ listing_program_of (file_of t) math.none
      go None = refl
      go (Some t) = refl

  module _ {t p : Bor (List ℕ)} (e : task ≡ Some t) (f : plan ≡ Some p) where
    pub prints-too-large : (ltb 16_384 (length t.now) || ltb 32_768 (length p.now)) ≡ true
        → too_large ≡ listing_program_of (file_of task) (file_of plan)
    unfolding listing_program_of
    prints-too-large h = rw (e, f) (sym (go (ltb 16_384 (length t.now)) (ltb 32_768 (length p.now)) h))
      where
        go : (c d : Bool) → (c || d) ≡ true → cond c too_large (cond d too_large (listing t.now p.now)) ≡ too_large
        go true d h = refl
        go false true h = refl
        go false false h = absurd (clash (sym h))

    pub prints-listing : (ltb 16_384 (length t.now) || ltb 32_768 (length p.now)) ≡ false
        → listing t.now p.now ≡ listing_program_of (file_of task) (file_of plan)
    unfolding listing_program_of
    prints-listing h = rw (e, f) (sym (go (ltb 16_384 (length t.now)) (ltb 32_768 (length p.now)) h))
      where
        go : (c d : Bool) → (c || d) ≡ false → cond c too_large (cond d too_large (listing t.now p.now)) ≡ listing t.now p.now
        go true d h = absurd (clash h)
        go false true h = absurd (clash h)
        go false false h = refl

-- ---- a text that is written part by part: what was written so far, and what is left
pub record Going (a b : Option (List ℕ)) (text left : List ℕ) : Type 0 where
  pub written : List ℕ
  pub wrote : Appends a b written
  pub parts : text ≡ written ++ left

pub going-start : (a : Option (List ℕ)) (text : List ℕ) → Going a a text text
going-start a text = record { written = []; wrote = Appends-nil a; parts = refl }

pub going-next : {a b : Option (List ℕ)} {text left : List ℕ} → Going a b text left → (c : Option (List ℕ)) (part rest : List ℕ)
    → left ≡ part ++ rest → Appends b c part → Going a c text rest
going-next {a} {b} g c part rest e w = record {
  written = g.written ++ part;
  wrote = Appends-trans a b c g.written part g.wrote w;
  parts = g.parts ∙ ap (λ z. g.written ++ z) e ∙ sym (append_assoc g.written part rest);
}

-- ---- one byte more than the program takes is enough of a file
more : (n : ℕ) (s : List ℕ) → ltb n (length s) ≡ true → ltb n (length (take (suc n) s)) ≡ true
more n s e = lt-ltb n (length (take (suc n) s)) (omega (arith, length-take (suc n) s, ltb-true n (length s) e))

whole : (n : ℕ) (s : List ℕ) → ltb n (length s) ≡ false → take (suc n) s ≡ s
whole n s e = take_all (suc n) s (omega (arith, ltb-false n (length s) e))

pub first-bytes-suffice : (task plan : List ℕ)
    → listing_program_of (math.some (take 16_385 task)) (math.some (take 32_769 plan)) ≡ listing_program_of (math.some task) (math.some plan)
unfolding listing_program_of
first-bytes-suffice task plan = go (ltb 16_384 (length task)) refl (ltb 32_768 (length plan)) refl
  where
    go : (c : Bool) → ltb 16_384 (length task) ≡ c → (d : Bool) → ltb 32_768 (length plan) ≡ d
        → cond (ltb 16_384 (length (take 16_385 task))) too_large
        (cond (ltb 32_768 (length (take 32_769 plan))) too_large (listing (take 16_385 task) (take 32_769 plan)))
        ≡ cond c too_large (cond d too_large (listing task plan))
    go true e d f = rw (more 16_384 task e)
    go false e true f = rw (whole 16_384 task e, e, more 32_768 plan f)
    go false e false f = rw (whole 16_384 task e, e, whole 32_768 plan f, f)
