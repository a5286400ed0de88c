-- Document 01, "Files": "The bytes of action k can be had as a part of the caller's file"; and the action that those bytes give.
-- Assumes nothing.
use Rattle.std.specs.Prelude.{ℕ, suc, ◌+◌, ◌-◌, cond, List, [], ◌∷◌, eqb, ltb, length, get_or, take, drop}
use Rattle.answers.specs.Answer.{Answer, given, refused, then}
use Rattle.commands.specs.Table.{size_of_byte, letter_a, letter_g}
use Rattle.commands.specs.Reading.{command_at}
use Rattle.commands.specs.declared.Command.{Command}
use Rattle.model.specs.Limits.{Limits}
use Rattle.model.specs.Reading.{remainders, Verdict, Accepted, Rejected, verdict_of}
use Rattle.model.specs.Decoding.{up_to}

-- the offset of a command A, G or another, before those of the commands behind it
abbrev pub edge_at : ℕ → ℕ → List ℕ → List ℕ
edge_at b at more = cond (eqb b letter_g) (at ∷ []) (cond (eqb b letter_a) (at ∷ more) more)

-- the offsets of the commands A, and last that of G, from an offset on
unfoldable pub edges_along : ℕ → List (List ℕ) → List ℕ
edges_along at [] = []
edges_along at (rest ∷ more) = cond (eqb (length rest) 0) [] (edge_at (get_or rest 0 0) at (edges_along (at + size_of_byte (get_or rest 0 0)) more))

abbrev pub edges : ℕ → ℕ → List ℕ → List ℕ
edges most at rest = edges_along at (remainders most rest)

-- the k-th of them, or the file's length
unfoldable pub edge_of : List ℕ → ℕ → ℕ
edge_of file k = get_or (edges (suc (length file)) 0 file) k (length file)

-- "They run from its A up to the next A or G"
abbrev pub action_part : List ℕ → ℕ → List ℕ
action_part file k = take (edge_of file (suc k) - edge_of file k) (drop (edge_of file k) file)

-- where they start and where they end: the file's refusal first; "a k past the last action gives 11 with place k"
abbrev pub of_verdict : Verdict → List ℕ → ℕ → Answer (ℕ × ℕ)
of_verdict (Accepted variables modes actions) file k = cond (ltb k actions) (given (edge_of file k, edge_of file (suc k))) (refused 11 k)
of_verdict (Rejected number place) file k = refused number place

unfoldable pub action_place : Limits → List ℕ → ℕ → Answer (ℕ × ℕ)
action_place l file k = of_verdict (verdict_of l file) file k

-- the bytes there, a part of the caller's file
abbrev pub part_at : List ℕ → ℕ × ℕ → List ℕ
part_at file place = take (place.1 - place.0) (drop place.0 file)

abbrev pub action_bytes : Limits → List ℕ → ℕ → Answer (List ℕ)
action_bytes l file k = then (action_place l file k) (λ place. given (part_at file place))

-- ---- the commands in a run of bytes; and those of the action whose bytes they are: behind its A, up to the next A or G
unfoldable pub all_along : List (List ℕ) → List Command
all_along [] = []
all_along (rest ∷ more) = cond (eqb (length rest) 0) [] (command_at rest ∷ all_along more)

abbrev pub commands_in : ℕ → List ℕ → List Command
commands_in most s = all_along (remainders most s)

unfoldable pub decode_action : List ℕ → List Command
decode_action s = up_to (drop 1 (commands_in (suc (length s)) s))
