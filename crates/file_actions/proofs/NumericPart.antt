-- The numeric effects of a source action, taken command by command: those taken, with those that the commands that are left give, are all of them,
-- as far as there is room.
-- Assumes nothing.
use mathlib.Core.Path.{◌≡◌, refl, ◌∙◌, sym, ap, subst}
use mathlib.Core.Bool.{Bool, true, false, cond}
use mathlib.Core.List.{List, [], ◌∷◌, ◌++◌, append_assoc, map, map-append}
use mathlib.Core.Logic.{inl, inr}
use Rattle.std.specs.Prelude.{Option, Some, None}
use Prim.Native.Nat.{ℕ, ◌+◌, ◌<◌, ◌≤◌}
use native.Mathlib.Omega.{arith}
use denote.Enum.Declared.{tag_of}
use lib.Dec.{ltb, lit<}
use lib.IntN.{ℤ}
use lib.ListN.{length, get_or, take, set, length-set, length-append, length-take, length-map}
use lib.Seq.{take_all}
use borrow.Author.Tests.{ltb-true, ltb-false}
use borrow.Enum.Refused.{Among, opened}
use types.Run.{OneOf, miss}
use Rattle.commands.specs.Table.{rows, row_at, letter_a, letter_c, letter_e, letter_g, letter_k, letter_p, letter_t}
use Rattle.commands.specs.Reading.{command_at, read_row}
use Rattle.commands.specs.declared.Command.{Command}
use Rattle.commands.specs.declared.Command.TheVariants.{Variable, Start, Mode, Action, Condition, ModeCondition, ModeEffect, Add, Linear, Term}
use Rattle.commands.specs.declared.Command.TheVariants.{Quotient, Residue, Goal, End, Sum, Refused}
use Rattle.commands.specs.contracts.Command.{the_type}
use Rattle.commands.proofs.Encoding.{byte-read}
use Rattle.commands.proofs.Known.{others}
use Rattle.model.specs.Tasks.{Effect}
use Rattle.model.specs.Rules.{constant}
use Rattle.model.specs.Decoding.{is_edge, up_to, effects_of, terms_of}
use Rattle.model.specs.ActionBytes.{decode_action}
use Rattle.file_parts.specs.Row.{Says}
use Rattle.file_actions.specs.declared.Terms.{Terms}
use Rattle.file_actions.specs.declared.NumericEffect.{NumericEffect}
use Rattle.file_actions.specs.declared.Effects.{Effects}
use Rattle.file_actions.specs.Places.{body_start}
use Rattle.file_actions.specs.Taking.{CommandsLeft, parts_of}
use Rattle.file_actions.specs.Views.{effect_room, term_room, term_is, terms_is, numeric_is, effects_is, fitting_effect}
use Rattle.file_actions.specs.Views.{plain_action_of, fitting_source, fitting_restricted, SourceDecoded}
use Rattle.file_actions.specs.Numeric.{term, with_term, TermsRead, no_terms}
use Rattle.file_actions.specs.Numeric.{no_effects, given_is, effect_in, FewTerms, EffectGiven}
use Rattle.file_actions.proofs.Filling.{front-enough, whole, stored, filled, stored-with, dropped-with, taken-few, all_set}
use Rattle.file_actions.proofs.Taking.{of_row, other-inside}
use Rattle.file_actions.proofs.Walking.{Turn, next-command, no-command-left, Left, left-begin, left_end, some, left-edge, left-next}

-- ---- terms
-- the T's read, with those that are left from an offset on, are all of them
pub record TermsFrom (s : List ℕ) (from at : ℕ) (r : Terms) : Type 0 where
  pub few : r.count ≤ term_room
  pub long : length r.places ≡ term_room
  pub are : (left : List Command) → CommandsLeft s from left
      → (more : List Command) × CommandsLeft s at more × (take term_room (terms_is r.count r.places ++ terms_of more) ≡ take term_room (terms_of left))

-- one term more
module _ (r : Terms) (v : ℕ) (w : ℤ) where
  abbrev one_more : Terms
  one_more = record { count = r.count + 1; places = set r.places r.count (term v w) }

  term_fits_lem : r.count ≤ term_room → (with_term r v w).count ≤ term_room
  term_fits_lem h = go (ltb r.count term_room) refl
    where
      go : (t : Bool) → ltb r.count term_room ≡ t → (cond t one_more r).count ≤ term_room
      go true e = omega (arith, ltb-true r.count term_room e)
      go false e = h

  term-long : length r.places ≡ term_room → length (with_term r v w).places ≡ term_room
  term-long h = go (ltb r.count term_room)
    where
      go : (t : Bool) → length (cond t one_more r).places ≡ term_room
      go true = length-set r.places r.count (term v w) ∙ h
      go false = h

  term-read : (rest : List (ℕ × ℤ)) → length r.places ≡ term_room
      → take term_room (terms_is (with_term r v w).count (with_term r v w).places ++ rest) ≡ take term_room (terms_is r.count r.places ++ ((v, w) ∷ rest))
  term-read rest long = go (ltb r.count term_room) refl
    where
      go : (t : Bool) → ltb r.count term_room ≡ t
          → take term_room (terms_is (cond t one_more r).count (cond t one_more r).places ++ rest)
          ≡ take term_room (terms_is r.count r.places ++ ((v, w) ∷ rest))
      go true e = stored-with term_is term_room r.places r.count (term v w) long rest (ltb-true r.count term_room e)
      go false e = dropped-with term_is term_room r.places r.count (term v w) long rest (ltb-false r.count term_room e)

-- a command that is no T ends them
no-term : (c : Command) (more : List Command) → Among (others 9) (tag_of the_type c) → terms_of (c ∷ more) ≡ []
no-term (Variable a b d) more h = refl
no-term (Start a) more h = refl
no-term (Mode a b) more h = refl
no-term Action more h = refl
no-term (Condition a b d) more h = refl
no-term (ModeCondition a b) more h = refl
no-term (ModeEffect a b) more h = refl
no-term (Add a b) more h = refl
no-term (Linear a b) more h = refl
no-term (Term a b) more h = absurd (miss (others 9) 9 tt (opened h))
no-term (Quotient a b d) more h = refl
no-term (Residue a b d) more h = refl
no-term Goal more h = refl
no-term End more h = refl
no-term (Sum a b) more h = refl
no-term (Refused a) more h = refl

module _ {s : List ℕ} {from at : ℕ} {r : Terms} (g : TermsFrom s from at r) where
  -- where no more T's are left
  enough : (more : List Command) → terms_of more ≡ [] → terms_is r.count r.places ≡ take term_room (terms_is r.count r.places ++ terms_of more)
  enough more e =
      whole term_room (terms_is r.count r.places) (taken-few term_is r.count r.places term_room g.few)
      ∙ ap (λ (z : List (ℕ × ℤ)). take term_room (terms_is r.count r.places ++ z)) (sym e)

  -- after the last command
  pub terms-end : length s ≤ at → TermsRead s from r
  terms-end h = record {
    few = g.few;
    are = λ left there.
        let (more, behind, same) = g.are left there in
        enough more (ap terms_of (no-command-left s at more h behind)) ∙ same;
  }

  module _ {rest : List ℕ} {size : ℕ} (t : Turn s at rest size) where
    pub terms-stop : {c : Command} → c ≡ command_at rest → Among (others 9) (tag_of the_type c) → TermsRead s from r
    terms-stop {c} e other = record {
      few = g.few;
      are = λ left there.
          let (more, behind, same) = g.are left there in
          let (fewer, is, next) = next-command t more behind in
          let none : terms_of more ≡ [] = ap terms_of (is ∙ ap (λ (d : Command). d ∷ fewer) (sym e)) ∙ no-term c fewer other in
          enough more none ∙ same;
    }

    pub terms-next : (v bits : ℕ) → Term v bits ≡ command_at rest → TermsFrom s from (at + size) (with_term r v (constant bits))
    terms-next v bits e = record {
      few = term_fits_lem r v (constant bits) g.few;
      long = term-long r v (constant bits) g.long;
      are = λ left there.
          let (more, behind, same) = g.are left there in
          let (fewer, is, next) = next-command t more behind in (
            fewer,
            next,
            term-read r v (constant bits) (terms_of fewer) g.long
                ∙ ap (λ (z : List Command). take term_room (terms_is r.count r.places ++ terms_of z)) (sym (is ∙ ap (λ (d : Command). d ∷ fewer) (sym e)))
                ∙ same,
          );
    }

-- ---- effects
abbrev Few : NumericEffect → Type 0
Few e = e.term_count ≤ term_room

-- effects in as many places as there is room for: no more than fit, and none with more terms than fit
pub record Held (n : Effects) : Type 0 where
  pub few : n.count ≤ effect_room
  pub terms_few : FewTerms n
  pub long : length n.places ≡ effect_room

-- r is n with more effects behind its own, as far as there is room
record Grown (n : Effects) (more : List Effect) (r : Effects) : Type 0 where
  held : Held r
  are : effects_is r ≡ take effect_room (effects_is n ++ more)

module _ {n : Effects} (h : Held n) where
  all-taken : effects_is n ≡ take effect_room (effects_is n ++ [])
  all-taken = whole effect_room (effects_is n) (taken-few numeric_is n.count n.places effect_room h.few)

  module _ (x : NumericEffect) where
    one_kept : Few x → n.count < effect_room
        → Grown n (numeric_is x ∷ []) (record { count = n.count + 1; places = set n.places n.count x })
    one_kept short room =
        let l : length (effects_is n ++ (numeric_is x ∷ [])) ≤ effect_room =
        omega (arith, length-append (effects_is n) (numeric_is x ∷ []), length-map (take n.count n.places) numeric_is, length-take n.count n.places) in
        record {
          held = record {
            few = omega arith;
            terms_few = all_set Few n.places n.count x short h.terms_few;
            long = length-set n.places n.count x ∙ h.long;
          };
          are = stored numeric_is effect_room n.places n.count x h.long room ∙ sym (take_all effect_room (effects_is n ++ (numeric_is x ∷ [])) l);
        }

    one-dropped : effect_room ≤ n.count → Grown n (numeric_is x ∷ []) n
    one-dropped full = record { held = h; are = sym (filled numeric_is effect_room n.places n.count x h.long full (numeric_is x ∷ [])) }

-- the effects of a command and those behind it
effects-behind : (c : Command) (cs : List Command) → effects_of (c ∷ cs) ≡ effect_in c (terms_of cs) ++ effects_of cs
effects-behind (Variable a b d) cs = refl
effects-behind (Start a) cs = refl
effects-behind (Mode a b) cs = refl
effects-behind Action cs = refl
effects-behind (Condition a b d) cs = refl
effects-behind (ModeCondition a b) cs = refl
effects-behind (ModeEffect a b) cs = refl
effects-behind (Add a b) cs = refl
effects-behind (Linear a b) cs = refl
effects-behind (Term a b) cs = refl
effects-behind (Quotient a b d) cs = refl
effects-behind (Residue a b d) cs = refl
effects-behind Goal cs = refl
effects-behind End cs = refl
effects-behind (Sum a b) cs = refl
effects-behind (Refused a) cs = refl

-- an A or G is no T: the T's that are left are those left of the action
pub terms-inside : (cs : List Command) → terms_of cs ≡ terms_of (up_to cs)
terms-inside [] = refl
terms-inside (Variable a b d ∷ cs) = refl
terms-inside (Start a ∷ cs) = refl
terms-inside (Mode a b ∷ cs) = refl
terms-inside (Action ∷ cs) = refl
terms-inside (Condition a b d ∷ cs) = refl
terms-inside (ModeCondition a b ∷ cs) = refl
terms-inside (ModeEffect a b ∷ cs) = refl
terms-inside (Add a b ∷ cs) = refl
terms-inside (Linear a b ∷ cs) = refl
terms-inside (Term a b ∷ cs) = ap (λ (z : List (ℕ × ℤ)). (a, constant b) ∷ z) (terms-inside cs)
terms-inside (Quotient a b d ∷ cs) = refl
terms-inside (Residue a b d ∷ cs) = refl
terms-inside (Goal ∷ cs) = refl
terms-inside (End ∷ cs) = refl
terms-inside (Sum a b ∷ cs) = refl
terms-inside (Refused a ∷ cs) = refl

-- the effects taken, with those that `rest` gives, are the action's
pub record EffectsFrom (s : List ℕ) (n : Effects) (rest : List Command) : Type 0 where
  pub held : Held n
  pub are : take effect_room (effects_is n ++ map fitting_effect (effects_of rest)) ≡ take effect_room (map fitting_effect (effects_of (decode_action s)))

-- before the command at an offset
abbrev pub EffectsLeft : List ℕ → ℕ → Effects → Type 0
EffectsLeft s at n = Left s at (EffectsFrom s n)

pub effects-begin : (s : List ℕ) → EffectsLeft s (body_start s) no_effects
effects-begin s = left-begin s (EffectsFrom s no_effects) (record {
  held = record { few = omega arith; terms_few = (omega arith, (omega arith, (omega arith, tt))); long = refl };
  are = refl;
})

-- where none is left, with rows that say the other parts
module _ {s : List ℕ} {n : Effects} {marks : List ℕ} {numbers : List ℤ}
    (parts : Says (fitting_restricted (parts_of false (decode_action s))) marks numbers) where
  all-effects : EffectsFrom s n [] → SourceDecoded (fitting_source (plain_action_of (decode_action s))) marks numbers n
  all-effects p = record { parts = parts; effects = all-taken p.held ∙ p.are; few = p.held.few; terms_few = p.held.terms_few }

  -- after the last command, and at an A or G
  pub effects-end : {at : ℕ} → EffectsLeft s at n → length s ≤ at → SourceDecoded (fitting_source (plain_action_of (decode_action s))) marks numbers n
  effects-end g h = all-effects (left_end (EffectsFrom s n) g h)

  pub effects-edge : {at : ℕ} {rest : List ℕ} {size : ℕ} → Turn s at rest size → EffectsLeft s at n → OneOf (letter_a ∷ letter_g ∷ []) (get_or rest 0 0)
      → SourceDecoded (fitting_source (plain_action_of (decode_action s))) marks numbers n
  effects-edge t g b = all-effects (left-edge t (EffectsFrom s n) g b)

module _ {s : List ℕ} {at : ℕ} {n : Effects} {rest : List ℕ} {size : ℕ} (t : Turn s at rest size) (g : EffectsLeft s at n) where
  -- at any other command they grow by what it gives
  turn : {r : Effects} → is_edge (command_at rest) ≡ false
      → ((left : List Command) → CommandsLeft s (at + size) left → Held n → Grown n (map fitting_effect (effect_in (command_at rest) (terms_of left))) r)
      → EffectsLeft s (at + size) r
  turn {r} inside grows = left-next t (EffectsFrom s n) g inside (EffectsFrom s r) (λ more behind p.
      let grown = grows more behind p.held in
      let own : List Effect = map fitting_effect (effect_in (command_at rest) (terms_of more)) in
      let later : List Effect = map fitting_effect (effects_of (up_to more)) in
      let split : map fitting_effect (effects_of (command_at rest ∷ up_to more)) ≡ own ++ later =
      ap (map fitting_effect) (effects-behind (command_at rest) (up_to more)
      ∙ ap (λ (z : List (ℕ × ℤ)). effect_in (command_at rest) z ++ effects_of (up_to more)) (sym (terms-inside more)))
      ∙ map-append fitting_effect (effect_in (command_at rest) (terms_of more)) (effects_of (up_to more)) in
      record {
        held = grown.held;
        are =
            ap (λ (z : List Effect). take effect_room (z ++ later)) grown.are
            ∙ front-enough effect_room (effects_is n ++ own) later
            ∙ ap (take effect_room) (append_assoc (effects_is n) own later)
            ∙ ap (λ (z : List Effect). take effect_room (effects_is n ++ z)) (sym split)
            ∙ p.are;
      })

  -- a C, E, K, P or T gives none
  plain : (i : ℕ) → i < rows → get_or rest 0 0 ≡ (row_at i).byte → is_edge (read_row rest i) ≡ false
      → ((terms : List (ℕ × ℤ)) → effect_in (read_row rest i) terms ≡ [])
      → EffectsLeft s (at + size) n
  plain i few b inside none =
      let there = some t (EffectsFrom s n) g in
      let gives : (terms : List (ℕ × ℤ)) → effect_in (command_at rest) terms ≡ [] =
      of_row rest i few there b (λ (c : Command). (terms : List (ℕ × ℤ)) → effect_in c terms ≡ []) none (λ terms. refl) in
      turn (of_row rest i few there b (λ (c : Command). is_edge c ≡ false) inside refl)
      (λ left behind h. record {
        held = h;
        are = all-taken h ∙ ap (λ (z : List Effect). take effect_room (effects_is n ++ map fitting_effect z)) (sym (gives (terms_of left)));
      })

  pub effects-pass : OneOf (letter_c ∷ letter_e ∷ letter_k ∷ letter_p ∷ letter_t ∷ []) (get_or rest 0 0) → EffectsLeft s (at + size) n
  effects-pass (inl b) = plain 4 (lit< tt) b refl (λ terms. refl)
  effects-pass (inr (inl b)) = plain 6 (lit< tt) b refl (λ terms. refl)
  effects-pass (inr (inr (inl b))) = plain 14 (lit< tt) b refl (λ terms. refl)
  effects-pass (inr (inr (inr (inl b)))) = plain 5 (lit< tt) b refl (λ terms. refl)
  effects-pass (inr (inr (inr (inr b)))) = plain 9 (lit< tt) b refl (λ terms. refl)

  -- any other command that is no A or G: it gives none, or one that is kept or dropped
  module _ (no_edge : OneOf (letter_a ∷ letter_g ∷ []) (get_or rest 0 0) → ⊥) where
    by : {r : Option NumericEffect} {q : Effects} → EffectGiven s (at + size) (command_at rest) r → (Held n → Grown n (given_is r) q)
        → EffectsLeft s (at + size) q
    by {r} {q} e grown =
        turn (other-inside (get_or rest 0 0) (command_at rest) (byte-read rest) (λ b. no_edge (inl b)) (λ b. no_edge (inr b)))
        (λ left behind h. subst (λ (z : List Effect). Grown n z q) (e.are left behind) (grown h))

    pub effects-none : EffectGiven s (at + size) (command_at rest) None → EffectsLeft s (at + size) n
    effects-none e = by e (λ h. record { held = h; are = all-taken h })

    module _ {x : NumericEffect} (e : EffectGiven s (at + size) (command_at rest) (Some x)) where
      pub effects-kept : n.count < effect_room → EffectsLeft s (at + size) (record { count = n.count + 1; places = set n.places n.count x })
      effects-kept room = by e (λ h. one_kept h x e.terms_few room)

      pub effects-dropped : effect_room ≤ n.count → EffectsLeft s (at + size) n
      effects-dropped full = by e (λ h. one-dropped h x full)
