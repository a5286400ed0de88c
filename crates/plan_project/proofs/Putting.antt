-- The scan that writes the source numbers of a plan's openings: those of what is left of the plan are left to write.
-- Assumes nothing.
use mathlib.Core.Path.{◌≡◌, refl, sym, ap, ◌∙◌}
use Prim.Native.Nat.{ℕ, zero, suc, ◌+◌, ◌≤◌, ◌<◌}
use native.Mathlib.Numerals.{add-one}
use native.Mathlib.Omega.{arith}
use mathlib.Core.Bool.{Bool, true, false, cond}
use mathlib.Core.Option.{Option, none, some}
use mathlib.Core.List.{List, [], ◌∷◌, ◌++◌, append_assoc, append-nil}
use lib.Dec.{eqb}
use lib.ListN.{length, get_or, take, drop, replicate, length-drop, drop_of_length-le}
use lib.Seq.{drop-cons, drop-drop}
use borrow.Author.Tests.{eqb-true, eq-eqb, lt-ltb, le-ltb}
use Rattle.integers.specs.Numbers.{bytes_of}
use Rattle.lists.specs.Writing.{Room, Wrote}
use Rattle.lists.proofs.Loops.{There, there-all, rest_more, rest-none}
use Rattle.lists.proofs.Writing.{Left, start, step, done, recast, room}
use Rattle.model.specs.Systems.{or_empty, keep}
use Rattle.model.specs.Plans.{plan_bytes_of}
use Rattle.model.specs.Following.{agreeing}
use Rattle.model.proofs.FollowingWalks.{agreeing-there}
use Rattle.plan_project.specs.Sources.{entry_at, named, source_in}
use Rattle.plan_project.specs.Following.{Notes}

-- ---- what is kept of a list that begins with a number
module _ (rename : ℕ → Option ℕ) where
  keep-opening : (k a : ℕ) (xs : List ℕ) → rename k ≡ some a → keep rename (k ∷ xs) ≡ a ∷ keep rename xs
  keep-opening k a xs e = ap (λ (o : Option ℕ). or_empty o (λ b. b ∷ []) ++ keep rename xs) e

  keep-other : (k : ℕ) (xs : List ℕ) → rename k ≡ none → keep rename (k ∷ xs) ≡ keep rename xs
  keep-other k xs e = ap (λ (o : Option ℕ). or_empty o (λ b. b ∷ []) ++ keep rename xs) e

  -- nothing of a run of a number that opens nothing
  keep-past : (k : ℕ) → rename k ≡ none → (most : ℕ) (xs : List ℕ) → keep rename xs ≡ keep rename (drop (agreeing (replicate most k) xs) xs)
  keep-past k e zero xs = refl
  keep-past k e (suc most) [] = refl
  keep-past k e (suc most) (x ∷ xs) = go (eqb k x) refl (keep-past k e most xs)
    where
      go : (b : Bool) → eqb k x ≡ b → keep rename xs ≡ keep rename (drop (agreeing (replicate most k) xs) xs) → keep rename (x ∷ xs) ≡ keep rename (drop (cond b (suc (agreeing (replicate most k) xs)) zero) (x ∷ xs))
      go true f h = keep-other x xs (ap rename (sym (eqb-true k x f)) ∙ e) ∙ h
      go false f h = refl

-- what is kept by two ways of renaming that agree
pub keep-alike : (f g : ℕ → Option ℕ) → ((k : ℕ) → f k ≡ g k) → (xs : List ℕ) → keep f xs ≡ keep g xs
keep-alike f g h [] = refl
keep-alike f g h (k ∷ xs) = ap (λ (o : Option ℕ). or_empty o (λ b. b ∷ []) ++ keep f xs) (h k) ∙ ap (λ (l : List ℕ). or_empty (g k) (λ b. b ∷ []) ++ l) (keep-alike f g h xs)

-- a run begins with the number that it is of
run-some : (k most : ℕ) (xs : List ℕ) → 0 < most → 0 < length xs → k ≡ get_or xs 0 0 → 1 ≤ agreeing (replicate most k) xs
run-some k zero xs h l e = absurd (omega arith)
run-some k (suc most) [] h l e = absurd (omega arith)
run-some k (suc most) (x ∷ xs) h l e = rw (eq-eqb k x e) (omega arith)

-- ---- the scan
module _ (q sources out₀ : List ℕ) where
  pub record Putting (out : List ℕ) (place i : ℕ) : Type 0 where
    pub bound : i ≤ length q
    pub left : Left out₀ 0 (plan_bytes_of (keep (source_in sources) q)) out place (plan_bytes_of (keep (source_in sources) (drop i q)) ∷ [])

  pub begins : Putting out₀ 0 0
  begins = record { bound = omega arith; left = start out₀ 0 (sym (append-nil (plan_bytes_of (keep (source_in sources) q)))) }

module _ {q sources out₀ out : List ℕ} {place i : ℕ} (g : Putting q sources out₀ out place i) where
  pub over : length q ≤ i → Wrote out₀ 0 (plan_bytes_of (keep (source_in sources) q)) out place
  over h = done (recast (ap (λ (l : List ℕ). plan_bytes_of (keep (source_in sources) l) ++ []) (drop_of_length-le q h)) g.left)

  module _ {k : ℕ} (is : k ≡ get_or q i 0) (h : i < length q) where
    here : drop i q ≡ k ∷ drop (i + 1) q
    here = drop-cons q i 0 h ∙ ap (λ (a : ℕ). a ∷ drop (suc i) q) (sym is) ∙ ap (λ (j : ℕ). k ∷ drop j q) (sym (add-one i))

    -- the number opens source action a
    module _ {a : ℕ} (e : a ≡ entry_at sources k) (l : a < 32) where
      opens : source_in sources k ≡ some a
      opens = ap named (sym e) ∙ ap (λ (b : Bool). cond b (some a) none) (lt-ltb a 32 l)

      parts : Left out₀ 0 (plan_bytes_of (keep (source_in sources) q)) out place (bytes_of 2 a ∷ plan_bytes_of (keep (source_in sources) (drop (i + 1) q)) ∷ [])
      parts = recast (ap (λ (m : List ℕ). plan_bytes_of m ++ []) (ap (keep (source_in sources)) here ∙ keep-opening (source_in sources) k a (drop (i + 1) q) opens)
          ∙ append_assoc (bytes_of 2 a) (plan_bytes_of (keep (source_in sources) (drop (i + 1) q))) []) g.left

      pub room-here : Room out₀ 0 (plan_bytes_of (keep (source_in sources) q)) → Room out place (bytes_of 2 a)
      room-here r = room r parts

      pub puts : {out' : List ℕ} {next : ℕ} → Wrote out place (bytes_of 2 a) out' next → Putting q sources out₀ out' next (i + 1)
      puts w = record { bound = omega arith; left = step parts w }

    -- it opens nothing
    module _ {a : ℕ} (e : a ≡ entry_at sources k) (l : 32 ≤ a) where
      opens-nothing : source_in sources k ≡ none
      opens-nothing = ap named (sym e) ∙ ap (λ (b : Bool). cond b (some a) none) (le-ltb a 32 l)

      pub passes : Putting q sources out₀ out place (i + 1)
      passes = record {
        bound = omega arith;
        left = recast (ap (λ (m : List ℕ). plan_bytes_of m ++ []) (ap (keep (source_in sources)) here ∙ keep-other (source_in sources) k (drop (i + 1) q) opens-nothing)) g.left;
      }

      module _ (most : ℕ) (m : length q ≤ most) {r : ℕ} (run : r ≡ agreeing (replicate most k) (drop i q)) where
        pub further : (1 ≤ r) × (i + r ≤ length q)
        further = (omega (arith, run, run-some k most (drop i q) (omega arith) (omega (arith, length-drop i q)) (sym (ap (λ (xs : List ℕ). get_or xs 0 0) here))), omega (arith, run, agreeing-there (replicate most k) (drop i q), length-drop i q))

        pub passes-run : Putting q sources out₀ out place (i + r)
        passes-run = record {
          bound = further.1;
          left = recast (ap (λ (m : List ℕ). plan_bytes_of m ++ []) (keep-past (source_in sources) k opens-nothing most (drop i q)
              ∙ ap (λ (j : ℕ). keep (source_in sources) (drop j (drop i q))) (sym run) ∙ ap (keep (source_in sources)) (drop-drop r i q))) g.left;
        }

-- ---- the numbers noted
pub noted-are : {noted xs : List ℕ} {found : ℕ} → Notes noted xs → found ≡ length xs → found ≤ 512 → take found noted ≡ xs
noted-are {noted} N e h = ap (λ (k : ℕ). take k noted) e ∙ N.are (omega (arith, e))

-- of some numbers, the first i are written
abbrev pub Copying : List ℕ → List ℕ → List ℕ → ℕ → ℕ → Type 0
Copying xs out₀ out place i = Left out₀ 0 (plan_bytes_of xs) out place (plan_bytes_of (drop i xs) ∷ [])

module _ (xs : List ℕ) {out₀ : List ℕ} where
  pub copying : Left out₀ 0 (plan_bytes_of xs) out₀ 0 (plan_bytes_of xs ∷ [])
  copying = start out₀ 0 (sym (append-nil (plan_bytes_of xs)))

  module _ {out : List ℕ} {place i : ℕ} (g : Left out₀ 0 (plan_bytes_of xs) out place (plan_bytes_of (drop i xs) ∷ [])) where
    pub copied : length xs ≤ i → Wrote out₀ 0 (plan_bytes_of xs) out place
    copied h = done (recast (ap (λ (l : List ℕ). plan_bytes_of l ++ []) (drop_of_length-le xs h)) g)

    module _ (h : i < length xs) where
      abbrev item : List ℕ
      item = bytes_of 2 (get_or xs i 0)

      copy_parts : Left out₀ 0 (plan_bytes_of xs) out place (item ∷ plan_bytes_of (drop (i + 1) xs) ∷ [])
      copy_parts = recast
          (ap (λ (l : List ℕ). plan_bytes_of l ++ []) (drop-cons xs i 0 h ∙ ap (λ (j : ℕ). get_or xs i 0 ∷ drop j xs) (sym (add-one i)))
          ∙ append_assoc item (plan_bytes_of (drop (i + 1) xs)) []) g

      pub copy-room : Room out₀ 0 (plan_bytes_of xs) → Room out place (bytes_of 2 (get_or xs i 0))
      copy-room r = room r copy_parts

      pub copies : {out' : List ℕ} {next : ℕ} → Wrote out place (bytes_of 2 (get_or xs i 0)) out' next
          → Left out₀ 0 (plan_bytes_of xs) out' next (plan_bytes_of (drop (i + 1) xs) ∷ [])
      copies w = step copy_parts w
