-- The laws of writing into lent output. `splice` has no condition, so that two writers after one another are one splice of both
-- (`splice-append`), whatever fits; that the rest of the output is as it was is `splice-eq`, used once, at the top.
-- In the middle of a writer stands `Left`: what it has still to write, as a list of parts, and from where.
-- Assumes nothing.
use mathlib.Core.Path.{◌≡◌, refl, sym, ap, ◌∙◌, subst}
use Prim.Native.Nat.{ℕ, zero, suc, ◌+◌, ◌≤◌, ◌<◌}
use native.Mathlib.Nat.{add-zero, zero-add}
use native.Mathlib.Numerals.{add-one}
use native.Mathlib.Omega.{arith}
use mathlib.Core.List.{List, [], ◌∷◌, ◌++◌, append-nil, append_assoc}
use lib.ListN.{length, take, drop, set, length-set, length-append, length-take, length-drop}
use lib.Seq.{sets, sets-eq, drop-length, drop-drop}
use borrow.Rule.Slice.PartMut.{put_mid}
use Rattle.lists.specs.Writing.{splice, capacity, Room, Wrote}

-- ---- what a splice is

pub length-splice : (xs out : List ℕ) (at : ℕ) → length (splice out at xs) ≡ length out
length-splice [] out at = refl
length-splice (x ∷ xs) out at = length-splice xs (set out at x) (at + 1) ∙ length-set out at x

pub splice-append : (xs ys out : List ℕ) (at : ℕ) → splice out at (xs ++ ys) ≡ splice (splice out at xs) (at + length xs) ys
splice-append [] ys out at = ap (λ (k : ℕ). splice out k ys) (sym (add-zero at))
splice-append (x ∷ xs) ys out at =
    let e : at + 1 + length xs ≡ at + suc (length xs) = omega arith in
    splice-append xs ys (set out at x) (at + 1) ∙ ap (λ (k : ℕ). splice (splice (set out at x) (at + 1) xs) k ys) e

splice-sets : (xs out : List ℕ) (at : ℕ) → splice out at xs ≡ sets out at xs
splice-sets [] out at = refl
splice-sets (x ∷ xs) out at = splice-sets xs (set out at x) (at + 1) ∙ ap (λ (k : ℕ). sets (set out at x) k xs) (add-one at)

-- bytes that fit: what stands before them, they, and the rest as it was
pub splice-eq : (xs out : List ℕ) (at : ℕ) → at + length xs ≤ length out → splice out at xs ≡ take at out ++ xs ++ drop (at + length xs) out
splice-eq xs out at h = splice-sets xs out at ∙ sets-eq xs out at h

pub splice_front : (xs out : List ℕ) → length xs ≤ length out → splice out 0 xs ≡ xs ++ drop (length xs) out
splice_front xs out h =
    let fits : 0 + length xs ≤ length out = omega arith in
    splice-eq xs out 0 fits ∙ ap (λ (k : ℕ). xs ++ drop k out) (zero-add (length xs))

-- nothing is stored into output of length 0
pub splice-none : (xs out : List ℕ) (at : ℕ) → length out ≡ 0 → splice out at xs ≡ out
splice-none [] out at e = refl
splice-none (x ∷ xs) [] at e = splice-none xs [] (at + 1) e
splice-none (x ∷ xs) (y ∷ out) at e = absurd (omega (arith, e))

-- ---- how far a writer goes

capacity-some : (n : ℕ) → 0 < n → capacity n ≡ n
capacity-some zero h = absurd (omega (arith, h))
capacity-some (suc n) h = refl

capacity-none : (n : ℕ) → n ≡ 0 → capacity n ≡ 4294967296
capacity-none zero h = refl
capacity-none (suc n) h = absurd (omega (arith, h))

capacity-long : (n : ℕ) → n ≤ capacity n
capacity-long zero = omega arith
capacity-long (suc n) = omega arith

-- a place within is a number of 64 bits, as the length is
capacity-wide : (n : ℕ) → n < 18446744073709551616 → capacity n < 18446744073709551616
capacity-wide zero h = omega arith
capacity-wide (suc n) h = h

-- bytes that fit have room
pub room_by : {out : List ℕ} {at : ℕ} {xs : List ℕ} → at + length xs ≤ length out → Room out at xs
room_by {out} h = record { fits = omega (arith, capacity-long (length out), h) }

-- and so have bytes that are only counted
pub room-count : {out : List ℕ} {at : ℕ} {xs : List ℕ} → length out ≡ 0 → at + length xs ≤ 4294967296 → Room out at xs
room-count {out} e h = record { fits = omega (arith, capacity-none (length out) e, h) }

module _ {out : List ℕ} {at : ℕ} {xs : List ℕ} (r : Room out at xs) where
  -- the bytes fit into output that is there
  pub room-some : 0 < length out → at + length xs ≤ length out
  room-some h = omega (arith, r.fits, capacity-some (length out) h)

  -- the place behind them is a number of 64 bits
  pub room-wide : length out < 18446744073709551616 → at + length xs < 18446744073709551616
  room-wide h = omega (arith, r.fits, capacity-wide (length out) h)

-- ---- one writer

pub wrote-long : {out : List ℕ} {at : ℕ} {xs after : List ℕ} {next : ℕ} → Wrote out at xs after next → length after ≡ length out
wrote-long {out} {at} {xs} w = ap length w.bytes ∙ length-splice xs out at

-- the same bytes, said in another way
pub wrote_as : {out : List ℕ} {at : ℕ} {xs ys after : List ℕ} {next : ℕ} → xs ≡ ys → Wrote out at xs after next → Wrote out at ys after next
wrote_as {out} {at} {after = after} {next} e w = subst (λ z. Wrote out at z after next) e w

-- counting stores nothing
pub wrote_none : {out : List ℕ} {at : ℕ} {xs : List ℕ} {next : ℕ} → length out ≡ 0 → next ≡ at + length xs → Wrote out at xs out next
wrote_none {out} {at} {xs} e p = record { place = p; bytes = sym (splice-none xs out at e) }

pub room_as : {out : List ℕ} {at : ℕ} {xs ys : List ℕ} → xs ≡ ys → Room out at xs → Room out at ys
room_as {out} {at} e r = subst (Room out at) e r

-- a part of the output that now holds the bytes is back in its place
module _ {out xs part : List ℕ} {at n k : ℕ} (some : n ≡ length xs) (as-many : k ≡ n) (fits : at + n ≤ length out) where
  pub wrote_mid : part ≡ xs → Wrote out at xs (put_mid at k out part) (at + n)
  wrote_mid e =
      let behind : drop k (drop at out) ≡ drop (at + length xs) out = drop-drop k at out ∙ ap (λ (m : ℕ). drop m out) (omega arith) in
      record {
        place = ap (λ (m : ℕ). at + m) some;
        bytes = rw (e, behind, ← append_assoc) (sym (splice-eq xs out at (omega arith)));
      }

  -- as it does when they were written from its front to its end
  pub wrote_part : {next : ℕ} → Wrote (take k (drop at out)) 0 xs part next → Wrote out at xs (put_mid at k out part) (at + n)
  wrote_part w =
      let long : length (take k (drop at out)) ≡ length xs = simp (length-take, length-drop) (omega arith) in
      wrote_mid (w.bytes ∙ splice_front xs (take k (drop at out)) (omega arith) ∙ rw (sym long, drop-length, append-nil))

-- ---- several writers, one after another

-- parts, one behind another
abbrev pub joined : List (List ℕ) → List ℕ
joined [] = []
joined (xs ∷ parts) = xs ++ joined parts

-- In the middle of a writer of `all` from index `at` of `old`: the output is `out`, and the parts are still to be stored, from `place` on.
pub record Left (old : List ℕ) (at : ℕ) (all out : List ℕ) (place : ℕ) (parts : List (List ℕ)) : Type 0 where
  pub ends : place + length (joined parts) ≡ at + length all
  pub bytes : splice out place (joined parts) ≡ splice old at all

pub start : (old : List ℕ) (at : ℕ) {all : List ℕ} {parts : List (List ℕ)} → all ≡ joined parts → Left old at all old at parts
start old at e = record { ends = ap (λ (z : List ℕ). at + length z) (sym e); bytes = ap (splice old at) (sym e) }

module _ {old : List ℕ} {at : ℕ} {all out : List ℕ} {place : ℕ} where
  -- the first part was written
  pub step : {xs after : List ℕ} {next : ℕ} {parts : List (List ℕ)} → Left old at all out place (xs ∷ parts) → Wrote out place xs after next → Left old at all after next parts
  step {xs} {after} {next} {parts} h w = record {
    ends = omega (arith, h.ends, w.place, length-append xs (joined parts));
    bytes =
        ap (λ (z : List ℕ). splice z next (joined parts)) w.bytes
        ∙ ap (λ (z : ℕ). splice (splice out place xs) z (joined parts)) w.place
        ∙ sym (splice-append xs (joined parts) out place)
        ∙ h.bytes;
  }

  -- nothing is left
  pub done : Left old at all out place [] → Wrote old at all out place
  done h = record { place = sym (add-zero place) ∙ h.ends; bytes = h.bytes }

  -- the same bytes, in other parts
  pub recast : {parts others : List (List ℕ)} → joined parts ≡ joined others → Left old at all out place parts → Left old at all out place others
  recast e h = record { ends = ap (λ (z : List ℕ). place + length z) (sym e) ∙ h.ends; bytes = ap (splice out place) (sym e) ∙ h.bytes }

  -- the output is as long as it was
  pub long : {parts : List (List ℕ)} → Left old at all out place parts → length out ≡ length old
  long {parts} h = sym (length-splice (joined parts) out place) ∙ ap length h.bytes ∙ length-splice all old at

  -- what the writer of the first part requires
  pub room : {xs : List ℕ} {parts : List (List ℕ)} → Room old at all → Left old at all out place (xs ∷ parts) → Room out place xs
  room {xs} {parts} r h = record { fits = omega (arith, r.fits, h.ends, ap capacity (long h), length-append xs (joined parts)) }
