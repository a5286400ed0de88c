-- Effects as a loop makes them, one write after another; and what becomes of the first elements of an array and of the others.
-- Assumes nothing.
use mathlib.Core.Path.{◌≡◌, refl, sym, ap, ap₂, ◌∙◌}
use Prim.Native.Nat.{ℕ, ◌+◌}
use mathlib.Core.List.{List, [], ◌∷◌, foldl}
use lib.ListN.{length, length-append, length-set, take-append-drop, set, take, drop}
use lib.IntN.{ℤ, ◌+ℤ◌}
use Rattle.model.specs.Steps.{add_all, set_all, integer_at}
use Rattle.restricted_step.specs.Whole.{Changed, Beyond}

-- ---- one + and one E
abbrev pub put_sum : List ℤ → ℕ × ℤ → List ℤ
put_sum values e = set values e.0 (integer_at values e.0 +ℤ e.1)

abbrev pub put_mode : List ℕ → ℕ × ℕ → List ℕ
put_mode modes e = set modes e.0 e.1

pub set-fold : (es : List (ℕ × ℕ)) (l : List ℕ) → set_all es l ≡ foldl put_mode l es
set-fold [] l = refl
set-fold (e ∷ es) l = set-fold es (put_mode l e)

-- ---- no effect makes an array longer or shorter
pub add-length : (es : List (ℕ × ℤ)) (l : List ℤ) → length (add_all es l) ≡ length l
add-length [] l = refl
add-length (e ∷ es) l = add-length es (put_sum l e) ∙ length-set l e.0 (integer_at l e.0 +ℤ e.1)

pub set-length : (es : List (ℕ × ℕ)) (l : List ℕ) → length (set_all es l) ≡ length l
set-length [] l = refl
set-length (e ∷ es) l = set-length es (put_mode l e) ∙ length-set l e.0 e.1

-- ---- past the first n elements
pub beyond-same : {A : Type 0} {n : ℕ} {l : List A} → Beyond n l l
beyond-same = record { rest = refl; long = refl }

pub beyond-then : {A : Type 0} {n : ℕ} {l m k : List A} → Beyond n l m → Beyond n m k → Beyond n l k
beyond-then a b = record { rest = b.rest ∙ a.rest; long = b.long ∙ a.long }

pub changed-beyond : {A : Type 0} {n : ℕ} {old new front : List A} → Changed n old new front → length front ≡ length (take n old) → Beyond n old new
changed-beyond {A} {n} {old} {new} {front} c e = record {
  rest = c.rest;
  long = split new ∙ ap₂ ◌+◌ (ap length c.is ∙ e) (ap length c.rest) ∙ sym (split old);
}
  where
    split : (l : List A) → length l ≡ length (take n l) + length (drop n l)
    split l = ap length (sym (take-append-drop n l)) ∙ length-append (take n l) (drop n l)
