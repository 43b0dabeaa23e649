-- What the answer to a pattern file promises, over its bytes (docs/PATTERNS.md, "What safe means").
use Rattle.std.specs.Prelude.{ℕ, ◌<◌, ◌≡◌, ◌↔◌, List, length}
use Rattle.machine_pws.specs.declared.Step.{Step}
use Rattle.machine_pws.specs.Program.{Program, ProgramInRange}
use Rattle.machine_pws.specs.Machine.{Configuration}
use Rattle.machine_pws.specs.Configurations.{Start, InTarget}
use Rattle.machine_pws.specs.Sequences.{Visited}
use Rattle.machine_pso.specs.Runs.{PsoReachable}
use Rattle.file_contents.specs.Reading.{Input}
use Rattle.list_theory.specs.Verdict.{target, ListVerdict, safe}
use Rattle.pattern_theory.specs.Patterns.{Pattern}
use Rattle.pattern_theory.specs.Fitting.{FitsList}
use Rattle.pattern_theory.specs.Verdict.{PatternsIn, PatternsJudged}
use Rattle.pattern_reading.specs.Reading.{patterns, read_patterns, judged, pattern_answer}

-- what is read is what the theorems of patterns assume
abbrev pub ReadInRange : Type 0
ReadInRange =
    (x : Input) (area : ℕ) (P : Program) (ts : List (ℕ → ℕ)) (ps : List Pattern) → read_patterns x area ≡ patterns P ts ps
    → ProgramInRange P × PatternsIn P.shape ps

-- of what is read, an answer is given exactly when it is judged so
abbrev pub FileJudged : Type 0
FileJudged =
    (x : Input) (area : ℕ) (P : Program) (ts : List (ℕ → ℕ)) (ps : List Pattern) → read_patterns x area ≡ patterns P ts ps → (v : ListVerdict)
    → (pattern_answer x area ≡ judged v) ↔ PatternsJudged P ts ps v

-- if the answer is safe, no sequence of steps from any start visits a target or a configuration that fits a pattern of the file
abbrev pub FileSafety : Type 0
FileSafety =
    (x : Input) (area n : ℕ) (P : Program) (ts : List (ℕ → ℕ)) (ps : List Pattern) → read_patterns x area ≡ patterns P ts ps
    → pattern_answer x area ≡ judged (safe n) → (c : Configuration) → Start P c → (ss : List Step) (d : Configuration) → Visited P c ss d
    → ((k : ℕ) → k < length ts → InTarget P.shape (target ts k) d → ⊥) × (FitsList P.shape ps d → ⊥)

-- and no run of the PSO machine visits a target
abbrev pub FilePsoSafety : Type 0
FilePsoSafety =
    (x : Input) (area n : ℕ) (P : Program) (ts : List (ℕ → ℕ)) (ps : List Pattern) → read_patterns x area ≡ patterns P ts ps
    → pattern_answer x area ≡ judged (safe n) → (memory : List ℕ) (k : ℕ) → k < length ts → PsoReachable P memory (target ts k) → ⊥
