-- The messages of the program that aren't those of a run.
use Rattle.std.specs.Prelude.{ℕ, List, [], ◌∷◌, ◌++◌, codes, Option}
use Rattle.std.specs.Option.{option_map_or}
use Rattle.std.specs.Borrow.{Bor}
use Rattle.clap.specs.Words.{Text}

-- the name of a file as it was given, which is empty for standard input
abbrev pub given_name : Option (Bor Text) → Text
given_name name = option_map_or (λ t. t.now) name []

-- the message of a file that can't be opened: a line with its name
abbrev pub cannot_open : Text → List ℕ
cannot_open name = codes "flow: cannot open " ++ name ++ 10 ∷ []
