-- An accepted file is the bytes of its commands.
-- Assumes nothing.
use mathlib.Core.Path.{◌≡◌, refl, sym, ap, ◌∙◌, subst}
use Prim.Native.Nat.{ℕ, zero, suc, ◌+◌}
use native.Mathlib.Omega.{arith}
use mathlib.Core.Bool.{cond, Bool, true, false}
use mathlib.Core.List.{List, [], ◌∷◌, ◌++◌, append_assoc}
use lib.ListN.{length, drop, get_or}
use lib.Dec.{T, eqb, eqb→eq}
use Rattle.integers.specs.All.{All}
use Rattle.integers.specs.Numbers.{Bytes}
use Rattle.commands.specs.Table.{size_of_byte}
use Rattle.commands.specs.declared.Command.{Command}
use Rattle.commands.specs.declared.Command.TheVariants.{End}
use Rattle.commands.specs.Reading.{command_at}
use Rattle.commands.specs.Encoding.{byte_of, encode, encode_all, Fits}
use Rattle.commands.proofs.Encoding.{byte-read, bytes_drop, encode-read, read_fits}
use Rattle.model.specs.Limits.{Limits}
use Rattle.model.specs.ReadingState.{ReadingState, Taken, Progress, Going, Ended, Stopped, begin}
use Rattle.model.specs.Rules.{take_of}
use Rattle.model.specs.Reading.{accepted_with, Rejected, after_command, verdict_from, verdict_of, gather, commands_from, commands_of, commands_along}
use Rattle.model.specs.Reading.{verdict_along, remainders}
use Rattle.model.proofs.ReadingLaws.{Alive}
use Rattle.model.proofs.CommandFacts.{end-only}
use Rattle.model.proofs.AcceptedTrail.{take-inv, Is, not-refused}

one_byte : (s : List ℕ) → eqb (length s) 1 ≡ true → s ≡ get_or s 0 0 ∷ []
one_byte s e = go s (eqb→eq (length s) 1 (subst T (sym e) tt))
  where
    go : (s : List ℕ) → length s ≡ 1 → s ≡ get_or s 0 0 ∷ []
    go [] q = absurd (omega (arith, q))
    go (b ∷ []) q = refl
    go (b ∷ c ∷ s) q = absurd (omega (arith, q))

abbrev Whole : List ℕ → List Command → Type 0
Whole s cs = (s ≡ encode_all cs ++ encode End) × All Fits cs

module _ (l : Limits) where
  bytes-inv : (k len : ℕ) (p : ReadingState) (at : ℕ) (s : List ℕ) → Bytes s → Is (verdict_from l len k p at s) → Whole s (commands_from l k p s)
  unfolding remainders verdict_along commands_along
  bytes-inv zero len p at s b h = absurd (not-refused 2 at len h)
  bytes-inv (suc k) len p at s b h =
      step (take_of l p s).state (take_of l p s).progress refl h
      (λ q g. bytes-inv k len q (at + size_of_byte (get_or s 0 0)) (drop (size_of_byte (get_or s 0 0)) s) (bytes_drop (size_of_byte (get_or s 0 0)) s b) g)
    where
      step : (q : ReadingState) (o : Progress) → (take_of l p s).progress ≡ o
          → Is (after_command (λ q. verdict_from l len k q (at + size_of_byte (get_or s 0 0)) (drop (size_of_byte (get_or s 0 0)) s)) at (length s) len q o)
          → ((q : ReadingState) → Is (verdict_from l len k q (at + size_of_byte (get_or s 0 0)) (drop (size_of_byte (get_or s 0 0)) s))
          → Whole (drop (size_of_byte (get_or s 0 0)) s) (commands_from l k q (drop (size_of_byte (get_or s 0 0)) s)))
          → Whole s (gather (λ q. commands_from l k q (drop (size_of_byte (get_or s 0 0)) s)) (command_at s) q o)
      step q Going f h rec =
          let (_, _, kn) = take-inv l p s (subst Alive (sym f) tt) in
          let e : s ≡ encode (command_at s) ++ drop (size_of_byte (get_or s 0 0)) s = encode-read s b kn in
          let (w, os) = rec q h in (
            e ∙ ap (λ (z : List ℕ). encode (command_at s) ++ z) w
                ∙ sym (append_assoc (encode (command_at s)) (encode_all (commands_from l k q (drop (size_of_byte (get_or s 0 0)) s))) (encode End)),
            (read_fits s b kn, os),
          )
      step q Ended f h rec =
          let (_, b', kn) = take-inv l p s (subst Alive (sym f) tt) in
          let z : command_at s ≡ End = end-only l p (command_at s) (sym (ap (λ (t : Taken). t.progress) b') ∙ f) in
          (over-z (eqb (length s) 1) refl h (sym (byte-read s kn) ∙ ap byte_of z), tt)
        where
          over-z : (b : Bool) → eqb (length s) 1 ≡ b → Is (cond b (accepted_with q) (Rejected 3 (at + 1))) → get_or s 0 0 ≡ 90 → s ≡ 90 ∷ []
          over-z true e h w = one_byte s e ∙ ap (λ (x : ℕ). x ∷ []) w
          over-z false e h w = absurd h
      step q (Stopped n) f h rec = absurd (not-refused n at len h)

  -- THE FILE is the bytes of its commands, and then Z
  pub file-is-its-commands : (file : List ℕ) → Bytes file → Is (verdict_of l file) → Whole file (commands_of l file)
  unfolding verdict_of commands_of
  file-is-its-commands file b h = bytes-inv (suc (length file)) (length file) begin 0 file b h
