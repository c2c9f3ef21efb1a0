-- What a program writes of itself.
use Rattle.std.specs.Prelude.{ℕ, List, ◌++◌, codes, Option, ◌⊎◌}
use Rattle.std.specs.Io.KnownBytes.{Appends, Keeps}
use Rattle.version.specs.Version.{version_text}
use Rattle.console.specs.declared.Failure.{Failure}
use Rattle.console.specs.declared.Failure.TheVariants.{Input, Output}
use Rattle.console.specs.declared.Program.{Program}

-- its name and version
abbrev pub version_line : Program → List ℕ
version_line p = p.name.now ++ codes " " ++ version_text ++ codes "\n"

-- its usage, its version, or nothing, where known bytes grew by one of these
abbrev pub IsAnswer : Option (List ℕ) → Option (List ℕ) → Program → Type 0
IsAnswer old new p = Appends old new p.usage.now ⊎ (Appends old new (version_line p) ⊎ Keeps old new)

-- what the system refused, in words
abbrev pub failure_text : Failure → List ℕ
failure_text Input = codes "standard input can't be read"
failure_text Output = codes "standard output can't be written"

-- the line that says so, behind the program's name
abbrev pub failure_line : Program → Failure → List ℕ
failure_line p failure = p.name.now ++ codes ": " ++ failure_text failure ++ codes "\n"
