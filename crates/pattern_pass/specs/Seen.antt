-- What the pass over a pattern keeps: counts. No statement rests on these definitions; they say how the code's counts stand for the pattern.
use Rattle.std.specs.Prelude.{ℕ, ◌+◌, ◌*◌, ◌<◌, ◌≤◌, ◌≡◌, Bool, true, false, cond, ◌&&◌, not, List, [], ◌∷◌, length, get_or, set, eqb, Result, Ok, Err}
use Rattle.std.proofs.Math.Option.{Option, none, some}
use Rattle.machine_pws.specs.Machine.{all_below}
use Rattle.base.specs.Bytes.{byte}
use Rattle.file_records.specs.declared.program.Shape.{Shape}
use Rattle.file_records.specs.declared.program.Refusal.{Refusal}
use Rattle.file_records.specs.Records.{is_kind, waiting_number}
use Rattle.file_contents.specs.Tally.{queue_at}
use Rattle.pattern_theory.specs.Patterns.{PathRead}
use Rattle.pattern_reading.specs.Records.{Given, read_number, mark_number}
use Rattle.pattern_reading.specs.Reading.{PatternRead, whole, bad}
use Rattle.pattern_pass.specs.declared.seen.Seen.{Seen}

-- bodyNumber by the counts
unfoldable pub seen_number : Shape → List ℕ → ℕ → Seen → ℕ
seen_number s f at t =
    cond (is_kind f at 18) (waiting_number s f at (get_or t.words (queue_at f at) 0))
    (cond (is_kind f at 20) (read_number s f at (get_or t.reads (byte f (at + 1)) 0))
    (cond (is_kind f at 21) (mark_number s f at (not (eqb (get_or t.marks (queue_at f at) 0) 0))) 2))

-- ---- with one record more

unfoldable pub seen_value : List ℕ → ℕ → Seen → Seen
seen_value f at t =
    record {
      words = set t.words (queue_at f at) (get_or t.words (queue_at f at) 0 + 1);
      marks = t.marks;
      reads = t.reads;
      own = t.own;
    }

-- the first read of a process says whether it is own
unfoldable pub seen_read : List ℕ → ℕ → Seen → Seen
seen_read f at t =
    record {
      words = t.words;
      marks = t.marks;
      reads = set t.reads (byte f (at + 1)) (get_or t.reads (byte f (at + 1)) 0 + 1);
      own = cond (eqb (get_or t.reads (byte f (at + 1)) 0) 0) (set t.own (byte f (at + 1)) (byte f (at + 4))) t.own;
    }

unfoldable pub seen_mark : List ℕ → ℕ → Seen → Seen
seen_mark f at t =
    record {
      words = t.words;
      marks = set t.marks (queue_at f at) (byte f (at + 3) + 1);
      reads = t.reads;
      own = t.own;
    }

unfoldable pub seen_more : List ℕ → ℕ → Seen → Seen
seen_more f at t = cond (is_kind f at 18) (seen_value f at t) (cond (is_kind f at 20) (seen_read f at t) (seen_mark f at t))

-- one record more can be counted
pub record SeenRoom (f : List ℕ) (at : ℕ) (t : Seen) : Type 0 where
  pub words : is_kind f at 18 ≡ true → (queue_at f at < 16) × (get_or t.words (queue_at f at) 0 ≤ 8)
  pub reads : is_kind f at 18 ≡ false → is_kind f at 20 ≡ true → (byte f (at + 1) < 4) × (get_or t.reads (byte f (at + 1)) 0 ≤ 16)
  pub marks : is_kind f at 18 ≡ false → is_kind f at 20 ≡ false → (queue_at f at < 16) × (byte f (at + 3) ≤ 1)

-- ---- number 7 by the counts

unfoldable pub mark_fits_seen : ℕ → ℕ → Bool
mark_fits_seen words mark = cond (eqb mark 0) true (cond (eqb mark 1) (eqb words 0) (not (eqb words 0)))

unfoldable pub seen_complete : Shape → Seen → Bool
seen_complete s t =
    all_below s.processes (λ p. all_below s.variables (λ v. mark_fits_seen (get_or t.words (4 * p + v) 0) (get_or t.marks (4 * p + v) 0)))
    && all_below s.processes (λ p. eqb (get_or t.own p 0) 0)

-- ---- the counts are those of g

abbrev pub mark_seen : Option ℕ → ℕ
mark_seen none = 0
mark_seen (some x) = x + 1

abbrev pub own_seen : List PathRead → ℕ
own_seen [] = 0
own_seen (r ∷ rs) = cond r.own 1 0

pub record SeenOf (t : Seen) (g : Given) : Type 0 where
  pub places : (length t.words ≡ 16) × (length t.marks ≡ 16) × (length t.reads ≡ 4) × (length t.own ≡ 4)
  pub words : (p v : ℕ) → p < 4 → v < 4 → get_or t.words (4 * p + v) 0 ≡ length (g.word p v)
  pub marks : (p v : ℕ) → p < 4 → v < 4 → get_or t.marks (4 * p + v) 0 ≡ mark_seen (g.mark p v)
  pub reads : (p : ℕ) → p < 4 → get_or t.reads p 0 ≡ length (g.path p)
  pub own : (p : ℕ) → p < 4 → get_or t.own p 0 ≡ own_seen (g.path p)

-- what is handed on
abbrev pub end_of_pattern : PatternRead → Result ℕ Refusal
end_of_pattern (whole g next) = Ok next
end_of_pattern (bad r) = Err r
