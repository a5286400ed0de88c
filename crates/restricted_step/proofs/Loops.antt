-- Loops over n elements, of which f i is element i: a loop that tests each and leaves at the first that fails, and one that changes a value
-- by each.
-- Assumes nothing.
use mathlib.Core.Path.{◌≡◌, sym, ap, ◌∙◌}
use Prim.Native.Nat.{ℕ, ◌+◌, ◌<◌, ◌≤◌}
use native.Mathlib.Omega.{arith}
use mathlib.Core.Bool.{Bool, true, false}
use mathlib.Core.List.{foldl}
use lib.ListN.{length, get_or}
use Rattle.lists.specs.Each.{tabulate}
use Rattle.lists.specs.Loops.{every}
use Rattle.lists.proofs.Each.{length-tabulate, get_or-tabulate, take-tabulate}
use Rattle.lists.proofs.Loops.{There, Scanned, scan-start, scan-next, scan-stop, scan-end, Folded, fold_start, fold_next, fold_end}

module _ {A : Type 0} (n : ℕ) (f : ℕ → A) {k : ℕ} where
  all_there : k ≡ n → There n (tabulate n f) k
  all_there e = record {
    ends = e ∙ sym (length-tabulate n f) ∙ ap length (sym (take-tabulate n f));
    asked = omega arith;
    room = omega (arith, length-tabulate n f);
  }

  at : {i : ℕ} → There n (tabulate n f) k → i < k → get_or (tabulate n f) i (f i) ≡ f i
  at {i} h l = get_or-tabulate n f i (f i) (omega (arith, h.asked))

-- ---- a loop that tests
pub record Tested {A : Type 0} (test : A → Bool) (n : ℕ) (f : ℕ → A) (k i : ℕ) : Type 0 where
  pub scanned : Scanned test n (tabulate n f) k i

module _ {A : Type 0} {test : A → Bool} {n : ℕ} {f : ℕ → A} {k : ℕ} where
  pub test-start : k ≡ n → Tested test n f k 0
  test-start e = record { scanned = scan-start (all_there n f e) }

  pub test-next : {i : ℕ} → Tested test n f k i → i < k → test (f i) ≡ true → Tested test n f k (i + 1)
  test-next {i} t l e = record { scanned = scan-next (f i) t.scanned l (ap test (at n f t.scanned.here l) ∙ e) }

  pub test-stop : {i : ℕ} → Tested test n f k i → i < k → test (f i) ≡ false → false ≡ every test (tabulate n f)
  test-stop {i} t l e = scan-stop (f i) t.scanned l (ap test (at n f t.scanned.here l) ∙ e) ∙ ap (every test) (take-tabulate n f)

  pub test-end : {i : ℕ} → Tested test n f k i → k ≤ i → true ≡ every test (tabulate n f)
  test-end t h = scan-end t.scanned h ∙ ap (every test) (take-tabulate n f)

-- ---- a loop that changes a value
pub record Changing {A B : Type 0} (change : B → A → B) (n : ℕ) (f : ℕ → A) (k i : ℕ) (start now : B) : Type 0 where
  pub folded : Folded change n (tabulate n f) k i start now

module _ {A B : Type 0} {change : B → A → B} {n : ℕ} {f : ℕ → A} {k : ℕ} {start : B} where
  pub change-start : k ≡ n → Changing change n f k 0 start start
  change-start e = record { folded = fold_start (all_there n f e) }

  pub change-next : {i : ℕ} {now : B} → Changing change n f k i start now → i < k → Changing change n f k (i + 1) start (change now (f i))
  change-next {i} {now} t l = record { folded = rw (at n f t.folded.here l) at (fold_next (f i) t.folded l) }

  pub change-end : {i : ℕ} {now : B} → Changing change n f k i start now → k ≤ i → now ≡ foldl change start (tabulate n f)
  change-end t h = fold_end t.folded h ∙ ap (foldl change start) (take-tabulate n f)
