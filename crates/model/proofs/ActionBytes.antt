-- The bytes of action k of an accepted file give action k of its task.
-- Assumes nothing.
use mathlib.Core.Path.{◌≡◌, refl, sym, ap, ap₂, ◌∙◌}
use Prim.Native.Nat.{ℕ, zero, suc, ◌+◌, ◌-◌, ◌≤◌, ◌<◌}
use native.Mathlib.Omega.{arith}
use native.Mathlib.Nat.{add-zero, zero-add}
use mathlib.Core.Bool.{cond, Bool, true, false}
use mathlib.Core.Option.{some}
use mathlib.Core.List.{List, [], ◌∷◌, ◌++◌, append_assoc}
use lib.ListN.{length, length-append, take, drop, get_or, get_elem?}
use lib.Seq.{take-append_seam, drop-append_seam}
use lib.Dec.{eqb}
use borrow.Author.Tests.{ne_eqb}
use Rattle.integers.specs.All.{All}
use Rattle.integers.specs.Numbers.{Bytes}
use Rattle.commands.specs.Table.{letter_a, letter_g, size_of_byte}
use Rattle.commands.specs.declared.Command.{Command}
use Rattle.commands.specs.declared.Command.TheVariants.{Action, End}
use Rattle.commands.specs.Encoding.{Fits, byte_of, encode, encode_all}
use Rattle.commands.proofs.Commands.{by_byte}
use Rattle.commands.proofs.Encoding.{read-encode, drop-encode, size-encode}
use Rattle.model.specs.Limits.{Limits}
use Rattle.model.specs.ReadingState.{begin}
use Rattle.model.specs.Reading.{verdict_of, commands_of, remainders}
use Rattle.model.specs.Decoding.{is_edge, up_to, actions_of}
use Rattle.model.specs.ActionBytes.{edges, edge_of, action_part, commands_in, decode_action, edges_along, all_along}
use Rattle.model.proofs.Walk.{count}
use Rattle.model.proofs.ReadingLaws.{clash}
use Rattle.model.proofs.CommandFacts.{has-byte}
use Rattle.model.proofs.AcceptedTrail.{Is, accepted-trail}
use Rattle.model.proofs.FileBytes.{file-is-its-commands}
use Rattle.model.proofs.ActionsAndGoal.{if_t, NoEdge, GoalIn, goal-in}

-- ---- the offsets, by commands
abbrev pub edges_c : ℕ → List Command → List ℕ
edges_c at [] = []
edges_c at (c ∷ cs) = cond (eqb (byte_of c) 71) (at ∷ [])
    (cond (eqb (byte_of c) 65) (at ∷ edges_c (at + length (encode c)) cs) (edges_c (at + length (encode c)) cs))

edges-nil : (n at : ℕ) → edges n at [] ≡ []
unfolding remainders edges_along
edges-nil zero at = refl
edges-nil (suc n) at = refl

edges-is : (cs : List Command) (n at : ℕ) → length cs < n → All Fits cs → edges n at (encode_all cs ++ encode End) ≡ edges_c at cs
unfolding remainders edges_along size_of_byte
edges-is [] zero at h o = absurd (omega (arith, h))
edges-is [] (suc n) at h o = edges-nil n (at + 1)
edges-is (c ∷ cs) zero at h o = absurd (omega (arith, h))
edges-is (c ∷ cs) (suc n) at h (o, os) =
    ap (edges (suc n) at) (append_assoc (encode c) (encode_all cs) (encode End))
    ∙ ap (λ (b : Bool). cond b [] (rest (size_of_byte (byte_of c)) (drop (size_of_byte (byte_of c)) (encode c ++ (encode_all cs ++ encode End)))))
    (ne_eqb (length (encode c ++ (encode_all cs ++ encode End))) 0 (λ e. omega (arith, e)))
    ∙ ap₂ rest (size-encode c o) (drop-encode c (encode_all cs ++ encode End) o)
    ∙ ap (λ (z : List ℕ). cond (eqb (byte_of c) 71) (at ∷ []) (cond (eqb (byte_of c) 65) (at ∷ z) z))
    (edges-is cs n (at + length (encode c)) (omega (arith, h)) os)
  where
    rest : ℕ → List ℕ → List ℕ
    rest k s = cond (eqb (byte_of c) 71) (at ∷ []) (cond (eqb (byte_of c) 65) (at ∷ edges n (at + k) s) (edges n (at + k) s))

-- ---- up to the next A or G
abbrev beyond : List Command → List Command
beyond [] = []
beyond (c ∷ cs) = cond (is_edge c) (c ∷ cs) (beyond cs)

split : (cs : List Command) → encode_all cs ≡ encode_all (up_to cs) ++ encode_all (beyond cs)
split [] = refl
split (c ∷ cs) = step (is_edge c) (split cs)
  where
    step : (b : Bool) → encode_all cs ≡ encode_all (up_to cs) ++ encode_all (beyond cs)
        → encode c ++ encode_all cs ≡ encode_all (cond b [] (c ∷ up_to cs)) ++ encode_all (cond b (c ∷ cs) (beyond cs))
    step true e = refl
    step false e = ap (λ (z : List ℕ). encode c ++ z) e ∙ sym (append_assoc (encode c) (encode_all (up_to cs)) (encode_all (beyond cs)))

up_to-ok : (cs : List Command) → All Fits cs → All Fits (up_to cs)
up_to-ok [] o = tt
up_to-ok (c ∷ cs) (o, os) = step (is_edge c) (up_to-ok cs os)
  where
    step : (b : Bool) → All Fits (up_to cs) → All Fits (cond b [] (c ∷ up_to cs))
    step true k = tt
    step false k = (o, k)

next_edge : (cs : List Command) (at d : ℕ) → GoalIn cs → get_or (edges_c at cs) 0 d ≡ at + length (encode_all (up_to cs))
next_edge [] at d g = absurd g
next_edge (c ∷ cs) at d g = step (eqb (byte_of c) 71) (eqb (byte_of c) 65) g (λ h. next_edge cs (at + length (encode c)) d h)
  where
    step : (x y : Bool) → if_t x (NoEdge cs) (GoalIn cs)
        → (GoalIn cs → get_or (edges_c (at + length (encode c)) cs) 0 d ≡ (at + length (encode c)) + length (encode_all (up_to cs)))
        → get_or (cond x (at ∷ []) (cond y (at ∷ edges_c (at + length (encode c)) cs) (edges_c (at + length (encode c)) cs))) 0 d
        ≡ at + length (encode_all (cond (cond x true y) [] (c ∷ up_to cs)))
    step true y g f = sym (add-zero at)
    step false true g f = sym (add-zero at)
    step false false g f = f g ∙ tidy at (length (encode c)) (length (encode_all (up_to cs))) (length-append (encode c) (encode_all (up_to cs)))
      where
        tidy : (a b e : ℕ) {z : ℕ} → z ≡ b + e → (a + b) + e ≡ a + z
        tidy a b e h = omega (arith, h)

-- no A or G is left in it
up-to-twice : (cs : List Command) → up_to (up_to cs) ≡ up_to cs
up-to-twice [] = refl
up-to-twice (c ∷ cs) = step (is_edge c) refl (up-to-twice cs)
  where
    step : (b : Bool) → is_edge c ≡ b → up_to (up_to cs) ≡ up_to cs → up_to (cond b [] (c ∷ up_to cs)) ≡ cond b [] (c ∷ up_to cs)
    step true e q = refl
    step false e q = rw e (ap (λ (z : List Command). c ∷ z) q)

-- ---- where action k stands
pub record At (k at d : ℕ) (cs : List Command) : Type 0 where
  pub pre : List Command
  pub body : List Command
  pub post : List Command
  pub is : encode_all cs ≡ encode_all pre ++ (encode_all (Action ∷ body) ++ encode_all post)
  pub lo : get_or (edges_c at cs) k d ≡ at + length (encode_all pre)
  pub hi : get_or (edges_c at cs) (suc k) d ≡ (at + length (encode_all pre)) + length (encode_all (Action ∷ body))
  pub part : get_elem? (actions_of cs) k ≡ some (up_to body)
  pub oks : All Fits body

no-acts : (cs : List Command) → NoEdge cs → length (actions_of cs) ≡ 0
no-acts [] h = refl
no-acts (c ∷ cs) (h, hs) = step (eqb (byte_of c) 71) (eqb (byte_of c) 65) h (no-acts cs hs)
  where
    step : (x y : Bool) → cond x true y ≡ false → length (actions_of cs) ≡ 0 → length (cond y (up_to cs ∷ actions_of cs) (actions_of cs)) ≡ 0
    step true y h k = absurd (clash h)
    step false true h k = absurd (clash h)
    step false false h k = k

unfoldable pub other : (c : Command) (cs : List Command) (k at d : ℕ) → edges_c at (c ∷ cs) ≡ edges_c (at + length (encode c)) cs
    → actions_of (c ∷ cs) ≡ actions_of cs
    → At k (at + length (encode c)) d cs → At k at d (c ∷ cs)
other c cs k at d e f A = record {
  pre = c ∷ A.pre;
  body = A.body;
  post = A.post;
  is = ap (λ (z : List ℕ). encode c ++ z) A.is ∙ sym (append_assoc (encode c) (encode_all A.pre) (encode_all (Action ∷ A.body) ++ encode_all A.post));
  lo = ap (λ (z : List ℕ). get_or z k d) e ∙ A.lo ∙ tidy at (length (encode c)) (length (encode_all A.pre)) (length-append (encode c) (encode_all A.pre));
  hi = ap (λ (z : List ℕ). get_or z (suc k) d) e ∙ A.hi
      ∙ ap (λ (z : ℕ). z + length (encode_all (Action ∷ A.body)))
      (tidy at (length (encode c)) (length (encode_all A.pre)) (length-append (encode c) (encode_all A.pre)));
  part = ap (λ (z : List (List Command)). get_elem? z k) f ∙ A.part;
  oks = A.oks;
}
  where
    tidy : (a b e : ℕ) {z : ℕ} → z ≡ b + e → (a + b) + e ≡ a + z
    tidy a b e h = omega (arith, h)

-- at the A of the action itself
here : (c : Command) (cs : List Command) (at d : ℕ) → c ≡ Action → GoalIn cs → All Fits cs → At 0 at d (c ∷ cs)
here c cs at d e g os = record {
  pre = [];
  body = up_to cs;
  post = beyond cs;
  is = rw e (ap (λ (z : List ℕ). 65 ∷ z) (split cs));
  lo = rw e (sym (add-zero at));
  hi = rw e (next_edge cs (at + 1) d g ∙ tidy at (length (encode_all (up_to cs))));
  part = rw e (ap some (sym (up-to-twice cs)));
  oks = up_to-ok cs os;
}
  where
    tidy : (a b : ℕ) → (a + 1) + b ≡ (a + 0) + suc b
    tidy a b = omega arith

-- behind the A of an action before it
unfoldable pub behind : (c : Command) (cs : List Command) (k at d : ℕ) → c ≡ Action → At k (at + 1) d cs → At (suc k) at d (c ∷ cs)
behind c cs k at d e A = record {
  pre = Action ∷ A.pre;
  body = A.body;
  post = A.post;
  is = rw e (ap (λ (z : List ℕ). 65 ∷ z) A.is);
  lo = rw e (A.lo ∙ tidy at (length (encode_all A.pre)));
  hi = rw e (A.hi ∙ ap (λ (z : ℕ). z + length (encode_all (Action ∷ A.body))) (tidy at (length (encode_all A.pre))));
  part = rw e A.part;
  oks = A.oks;
}
  where
    tidy : (a b : ℕ) → (a + 1) + b ≡ a + suc b
    tidy a b = omega arith

pub find : (cs : List Command) (k at d : ℕ) → GoalIn cs → All Fits cs → k < length (actions_of cs) → At k at d cs
find [] k at d g o h = absurd (omega (arith, h))
find (c ∷ cs) k at d g (o, os) h = step (eqb (byte_of c) letter_g) (eqb (byte_of c) letter_a) refl refl g k h (λ k at g h. find cs k at d g os h)
  where
    step : (x y : Bool) → eqb (byte_of c) letter_g ≡ x → eqb (byte_of c) letter_a ≡ y → if_t x (NoEdge cs) (GoalIn cs)
        → (k : ℕ) → k < length (cond y (up_to cs ∷ actions_of cs) (actions_of cs))
        → ((k at : ℕ) → GoalIn cs → k < length (actions_of cs) → At k at d cs) → At k at d (c ∷ cs)
    step true true e f g k h more = absurd (omega (arith, has-byte c letter_g e, has-byte c letter_a f))
    step true false e f g k h more = absurd (omega (arith, h, no-acts cs g))
    step false true e f g zero h more = here c cs at d (by_byte c Action o.0 tt (has-byte c letter_a f)) g os
    step false true e f g (suc k) h more = behind c cs k at d (by_byte c Action o.0 tt (has-byte c letter_a f)) (more k (at + 1) g (omega (arith, h)))
    step false false e f g k h more = other c cs k at d (rw (e, f) refl) (rw f refl) (more k (at + length (encode c)) g h)

-- behind the first A stand the commands up to the next A or G
pub first_body : (cs : List Command) (at d : ℕ) (g : GoalIn cs) (o : All Fits (Action ∷ cs)) (h : 0 < length (actions_of (Action ∷ cs)))
    → (find (Action ∷ cs) zero at d g o h).body ≡ up_to cs
unfolding find here
first_body cs at d g (o, os) h = refl

-- ---- reading the bytes of commands
in_one : (n : ℕ) (c : Command) (rest : List ℕ) → Fits c → commands_in (suc n) (encode c ++ rest) ≡ c ∷ commands_in n rest
unfolding remainders all_along
in_one n c rest o = rw (ne_eqb (length (encode c ++ rest)) 0 (λ e. omega (arith, e)), read-encode c rest o, drop-encode c rest o) refl

in_all : (cs : List Command) (n : ℕ) → length cs ≤ n → All Fits cs → commands_in n (encode_all cs) ≡ cs
unfolding remainders all_along
in_all [] zero h o = refl
in_all [] (suc n) h o = refl
in_all (c ∷ cs) zero h o = absurd (omega (arith, h))
in_all (c ∷ cs) (suc n) h (o, os) = in_one n c (encode_all cs) o ∙ ap (λ (z : List Command). c ∷ z) (in_all cs n (omega (arith, h)) os)

-- the bytes from action k's A on, up to the next A or G
pub part_of : (file : List ℕ) (cs : List Command) (k : ℕ) → file ≡ encode_all cs ++ encode End → All Fits cs → (A : At k 0 (length file) cs)
    → action_part file k ≡ encode_all (Action ∷ A.body)
unfolding edge_of
part_of file cs k w o A = cut (edge_of file k) (edge_of file (suc k)) (encode_all A.pre) (encode_all (Action ∷ A.body)) (encode_all A.post ++ encode End)
    (ap (λ (z : List ℕ). get_or z k (length file)) es ∙ A.lo ∙ zero-add (length (encode_all A.pre)))
    (ap (λ (z : List ℕ). get_or z (suc k) (length file)) es ∙ A.hi
    ∙ ap (λ (z : ℕ). z + length (encode_all (Action ∷ A.body))) (zero-add (length (encode_all A.pre))))
    (w ∙ ap (λ (z : List ℕ). z ++ encode End) A.is ∙ append_assoc (encode_all A.pre) (encode_all (Action ∷ A.body) ++ encode_all A.post) (encode End)
    ∙ ap (λ (z : List ℕ). encode_all A.pre ++ z) (append_assoc (encode_all (Action ∷ A.body)) (encode_all A.post) (encode End)))
  where
    es : edges (suc (length file)) 0 file ≡ edges_c 0 cs
    es = ap (edges (suc (length file)) 0) w
        ∙ edges-is cs (suc (length file)) 0 (omega (arith, count cs, ap length w, length-append (encode_all cs) (encode End))) o

    cut : (a e : ℕ) (xs ys zs : List ℕ) → a ≡ length xs → e ≡ length xs + length ys → file ≡ xs ++ (ys ++ zs) → take (e - a) (drop a file) ≡ ys
    cut a e xs ys zs p q r = ap₂ (λ (n : ℕ) (s : List ℕ). take n s) diff (ap₂ (λ (n : ℕ) (s : List ℕ). drop n s) p r ∙ drop-append_seam xs (ys ++ zs))
        ∙ take-append_seam ys zs
      where
        diff : e - a ≡ length ys
        diff = omega (arith, p, q)

-- THE BYTES OF ACTION k: those of its A and its commands, and they give action k
module _ (l : Limits) (file : List ℕ) (b : Bytes file) (h : Is (verdict_of l file)) where
  pub action-decodes : (k : ℕ) → k < length (actions_of (commands_of l file))
      → get_elem? (actions_of (commands_of l file)) k ≡ some (decode_action (action_part file k))
  unfolding decode_action
  action-decodes k q =
      let (w, o) = file-is-its-commands l file b h in
      let A : At k 0 (length file) (commands_of l file) =
      find (commands_of l file) k 0 (length file) (goal-in l (commands_of l file) begin (omega arith) (accepted-trail l file h).0) o q in
      let part : action_part file k ≡ encode_all (Action ∷ A.body) = part_of file (commands_of l file) k w o A in
      A.part ∙ ap (λ (c : List Command). some (up_to (drop 1 c)))
      (sym (in_all (Action ∷ A.body) (suc (length (action_part file k))) (omega (arith, ap length part, count A.body)) ((tt, tt), A.oks))
      ∙ ap (commands_in (suc (length (action_part file k)))) (sym part))
