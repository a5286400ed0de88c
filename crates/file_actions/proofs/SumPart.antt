-- The conditions on sums of a source action or goal, taken command by command: those taken, with those that the commands that are left give, are all
-- of them, as far as there is room.
-- Assumes nothing.
use mathlib.Core.Path.{◌≡◌, refl, ◌∙◌, sym, ap}
use mathlib.Core.Bool.{Bool, true, false, cond}
use mathlib.Core.List.{List, [], ◌∷◌, ◌++◌, map}
use mathlib.Core.Logic.{inl, inr}
use Prim.Native.Nat.{ℕ, ◌+◌, ◌≤◌}
use native.Mathlib.Omega.{arith}
use denote.Enum.Declared.{tag_of}
use lib.Dec.{ltb, eqb, lit<}
use lib.IntN.{ℤ}
use lib.ListN.{length, get_or, take, set, length-set}
use borrow.Author.Tests.{ltb-true, ltb-false}
use borrow.Enum.Refused.{Among}
use types.Run.{OneOf}
use Rattle.integers.specs.All.{All}
use Rattle.integers.specs.Relation.{relation_of}
use Rattle.commands.specs.Table.{letter_a, letter_g, letter_k}
use Rattle.commands.specs.Reading.{command_at}
use Rattle.commands.specs.Encoding.{byte_of}
use Rattle.commands.specs.declared.Command.{Command}
use Rattle.commands.specs.declared.Command.TheVariants.{Sum}
use Rattle.commands.specs.contracts.Command.{the_type}
use Rattle.commands.proofs.Encoding.{byte-read}
use Rattle.commands.proofs.Known.{others, cut_short}
use Rattle.model.specs.Tasks.{NumericCondition, weighted_sum}
use Rattle.model.specs.Rules.{constant}
use Rattle.model.specs.Decoding.{is_edge, up_to, terms_of, sum_condition_of, sum_conditions_of}
use Rattle.model.specs.ActionBytes.{decode_action}
use Rattle.file_actions.specs.declared.Terms.{Terms}
use Rattle.file_actions.specs.declared.SumCondition.{SumCondition}
use Rattle.file_actions.specs.declared.SumConditions.{SumConditions}
use Rattle.file_actions.specs.Places.{body_start}
use Rattle.file_actions.specs.Views.{sum_room, term_room, terms_is, sum_is, sums_is, fitting_sum, SumsDecoded}
use Rattle.file_actions.specs.Numeric.{TermsRead, sum_condition, no_sums, with_sum}
use Rattle.file_actions.proofs.Filling.{whole, stored-with, dropped-with, taken-few, all_set}
use Rattle.file_actions.proofs.NumericPart.{terms-inside}
use Rattle.file_actions.proofs.Taking.{not_byte, other-inside}
use Rattle.file_actions.proofs.Walking.{Turn, Left, left-begin, left_end, some, left-edge, left-next}

abbrev Few : SumCondition → Type 0
Few k = k.term_count ≤ term_room

-- conditions in as many places as there is room for: no more than fit, and none with more terms than fit
pub record Held (n : SumConditions) : Type 0 where
  pub few : n.count ≤ sum_room
  pub terms_few : All Few n.places
  pub long : length n.places ≡ sum_room

-- one condition more
module _ (n : SumConditions) (r : ℕ) (k : ℤ) (ts : Terms) (h : Held n) where
  abbrev one_more : SumConditions
  one_more = record { count = n.count + 1; places = set n.places n.count (sum_condition r k ts) }

  sum-held : ts.count ≤ term_room → Held (with_sum n r k ts)
  sum-held short = go (ltb n.count sum_room) refl
    where
      go : (t : Bool) → ltb n.count sum_room ≡ t → Held (cond t one_more n)
      go true e = record {
        few = omega (arith, ltb-true n.count sum_room e);
        terms_few = all_set Few n.places n.count (sum_condition r k ts) short h.terms_few;
        long = length-set n.places n.count (sum_condition r k ts) ∙ h.long;
      }
      go false e = h

  sum-read : (rest : List (NumericCondition ℕ))
      → take sum_room (sums_is (with_sum n r k ts) ++ rest) ≡ take sum_room (sums_is n ++ (sum_is (sum_condition r k ts) ∷ rest))
  sum-read rest = go (ltb n.count sum_room) refl
    where
      go : (t : Bool) → ltb n.count sum_room ≡ t
          → take sum_room (sums_is (cond t one_more n) ++ rest) ≡ take sum_room (sums_is n ++ (sum_is (sum_condition r k ts) ∷ rest))
      go true e = stored-with sum_is sum_room n.places n.count (sum_condition r k ts) h.long rest (ltb-true n.count sum_room e)
      go false e = dropped-with sum_is sum_room n.places n.count (sum_condition r k ts) h.long rest (ltb-false n.count sum_room e)

-- the conditions taken, with those that `rest` gives, are the action's
pub record SumsFrom (s : List ℕ) (n : SumConditions) (rest : List Command) : Type 0 where
  pub held : Held n
  pub are : take sum_room (sums_is n ++ map fitting_sum (sum_conditions_of rest)) ≡ take sum_room (map fitting_sum (sum_conditions_of (decode_action s)))

-- before the command at an offset
abbrev pub SumsLeft : List ℕ → ℕ → SumConditions → Type 0
SumsLeft s at n = Left s at (SumsFrom s n)

pub sums-begin : (s : List ℕ) → SumsLeft s (body_start s) no_sums
sums-begin s = left-begin s (SumsFrom s no_sums) (record {
  held = record { few = omega arith; terms_few = (omega arith, (omega arith, (omega arith, (omega arith, tt)))); long = refl };
  are = refl;
})

-- where none is left
all-sums : {s : List ℕ} {n : SumConditions} → SumsFrom s n [] → SumsDecoded (sum_conditions_of (decode_action s)) n
all-sums {n = n} p = record {
  are = whole sum_room (sums_is n) (taken-few sum_is n.count n.places sum_room p.held.few) ∙ p.are;
  few = p.held.few;
  long = p.held.long;
  terms_few = p.held.terms_few;
}

-- after the last command
pub sums-end : {s : List ℕ} {at : ℕ} {n : SumConditions} → SumsLeft s at n → length s ≤ at → SumsDecoded (sum_conditions_of (decode_action s)) n
sums-end {s} {at} {n} g h = all-sums (left_end (SumsFrom s n) g h)

module _ {s : List ℕ} {at : ℕ} {n : SumConditions} {rest : List ℕ} {size : ℕ} (t : Turn s at rest size) (g : SumsLeft s at n) where
  pub sums-edge : OneOf (letter_a ∷ letter_g ∷ []) (get_or rest 0 0) → SumsDecoded (sum_conditions_of (decode_action s)) n
  sums-edge b = all-sums (left-edge t (SumsFrom s n) g b)

  -- a command that is no K
  passed : is_edge (command_at rest) ≡ false → eqb (byte_of (command_at rest)) letter_k ≡ false → SumsLeft s (at + size) n
  passed inside other = left-next t (SumsFrom s n) g inside (SumsFrom s n) (λ more behind p.
      let later : List (NumericCondition ℕ) = sum_conditions_of (up_to more) in
      let own : NumericCondition ℕ = sum_condition_of (command_at rest) (terms_of (up_to more)) in
      record { held = p.held; are = ap (λ (b : Bool). take sum_room (sums_is n ++ map fitting_sum (cond b (own ∷ later) later))) (sym other) ∙ p.are })

  pub sums-pass : (get_or rest 0 0 ≡ letter_k → ⊥) → (OneOf (letter_a ∷ letter_g ∷ []) (get_or rest 0 0) → ⊥) → SumsLeft s (at + size) n
  sums-pass no_k no_edge =
      passed (other-inside (get_or rest 0 0) (command_at rest) (byte-read rest) (λ b. no_edge (inl b)) (λ b. no_edge (inr b)))
      (not_byte (get_or rest 0 0) (command_at rest) (byte-read rest) letter_k (omega arith) no_k)

  module _ (b : get_or rest 0 0 ≡ letter_k) where
    -- a K that is cut short
    pub sums-short : {c : Command} → c ≡ command_at rest → Among (others 14) (tag_of the_type c) → SumsLeft s (at + size) n
    sums-short {c} e other =
        let cut = cut_short rest 14 (lit< tt) (some t (SumsFrom s n) g) b c e other in
        passed (ap is_edge cut) (ap (λ (d : Command). eqb (byte_of d) letter_k) cut)

    -- and one that is whole, with the terms behind it
    pub sums_kept : (r bits : ℕ) → Sum r bits ≡ command_at rest → {ts : Terms} → TermsRead s (at + size) ts
        → SumsLeft s (at + size) (with_sum n r (constant bits) ts)
    sums_kept r bits e {ts} read =
        left-next t (SumsFrom s n) g (ap is_edge (sym e)) (SumsFrom s (with_sum n r (constant bits) ts)) (λ more behind p.
        let later : List (NumericCondition ℕ) = map fitting_sum (sum_conditions_of (up_to more)) in
        let terms : terms_is ts.count ts.places ≡ take term_room (terms_of (up_to more)) = read.are more behind ∙ ap (take term_room) (terms-inside more) in
        let own : sum_is (sum_condition r (constant bits) ts) ≡ fitting_sum (sum_condition_of (Sum r bits) (terms_of (up_to more))) =
        ap (λ (z : List (ℕ × ℤ)). record { measured = weighted_sum z; relation = relation_of r; constant = constant bits }) terms in
        record {
          held = sum-held n r (constant bits) ts p.held read.few;
          are =
              sum-read n r (constant bits) ts p.held later
              ∙ ap (λ (z : NumericCondition ℕ). take sum_room (sums_is n ++ (z ∷ later))) own
              ∙ ap (λ (c : Command). take sum_room (sums_is n ++ map fitting_sum (sum_conditions_of (c ∷ up_to more)))) e
              ∙ p.are;
        })
