-- What the three described predictors answer, and what the bimodal one learns.
use Rattle.std.specs.Prelude.{ℕ, ◌+◌, ◌-◌, ◌/◌, ◌%◌, min, Bool, true, false, not, ◌==◌, nat_le, length}
use Rattle.std.specs.Prelude.{slice_index, slice_set, Option, Some, None, unwrap_or, if◌then◌else◌}
use Rattle.std.specs.List.{slice_index_or}
use Rattle.rv_isa.specs.Word.{pc_plus_4}
use Rattle.rv_isa.specs.declared.values.PredictorKind.{PredictorKind}
use Rattle.rv_isa.specs.declared.values.PredictorKind.TheVariants as kind
use Rattle.rv_front.specs.Flow.{flow_at}
use Rattle.rv_front.specs.Guide.{Guide, guide_by}
use Rattle.rv_front.specs.Lesson.{Lesson}
use Rattle.rv_front.specs.Tables.{Tables, untaught}
use Rattle.rv_front.specs.declared.flow.Flow.{Flow}
use Rattle.rv_front.specs.declared.flow.Flow.TheVariants.{Sequential, Jump, Branch, Indirect}
use Rattle.rv_front.specs.declared.predictors.DescribedPredictor.{DescribedPredictor}
use Rattle.rv_front.specs.declared.predictors.DescribedPredictor.TheVariants.{NotTaken, BackwardTaken, Bimodal}

-- the next pc, where a branch is taken by what a test says of its offset's sign, and a register leads where it is known to
abbrev pub predicted : (Bool → Bool) → Option ℕ → ℕ → Flow → ℕ
predicted is_taken known pc Sequential = pc_plus_4 pc
predicted is_taken known pc (Jump target) = target
predicted is_taken known pc (Branch target backward) = if is_taken backward then target else pc_plus_4 pc
predicted is_taken known pc Indirect = unwrap_or known (pc_plus_4 pc)

-- no branch is taken, and a register's target is unknown
abbrev pub not_taken : ℕ → Flow → ℕ
not_taken pc flow = predicted (λ backward. false) None pc flow

-- a branch with a negative offset is taken
abbrev pub backward_taken : ℕ → Flow → ℕ
backward_taken pc flow = predicted (λ backward. backward) None pc flow

-- the place of a pc in the tables
abbrev pub place_of : Tables → ℕ → ℕ
place_of tables pc = pc / 4 % length tables.counters

-- the counter of a pc
abbrev pub counter_at : Tables → ℕ → ℕ
counter_at tables pc = slice_index tables.counters (place_of tables pc)

-- the last target of a register that was jumped to from a pc, if there was one
abbrev pub target_at : Tables → ℕ → Option ℕ
target_at tables pc = slice_index_or tables.targets (place_of tables pc) None

-- a branch is taken where its counter is 2 or 3, and a register leads where it last did
abbrev pub bimodal : Tables → ℕ → Flow → ℕ
bimodal tables pc flow = predicted (λ backward. nat_le 2 (counter_at tables pc)) (target_at tables pc) pc flow

-- a counter after a branch, which goes up to 3 where the branch was taken, else down to 0
abbrev pub counted : Bool → ℕ → ℕ
counted true counter = min (counter + 1) 3
counted false counter = counter - 1

-- a branch that goes on anywhere but at the next word counts as taken, and a register's target is kept
abbrev pub learned : Tables → ℕ → ℕ → Flow → Tables
learned tables pc next Sequential = tables
learned tables pc next (Jump target) = tables
learned tables pc next (Branch target backward) =
    record tables {
      counters = slice_set tables.counters (place_of tables pc)
          (counted (not (next == pc_plus_4 pc)) (counter_at tables pc));
    }
learned tables pc next Indirect = record tables { targets = slice_set tables.targets (place_of tables pc) (Some next) }

-- the tables after a lesson
abbrev pub with_lesson : Tables → Lesson → Tables
with_lesson tables lesson = learned tables lesson.pc lesson.next (flow_at lesson.pc lesson.word)

-- a predictor of a kind that was taught nothing
abbrev pub described : PredictorKind → ℕ → DescribedPredictor
described kind.NotTaken entries = NotTaken record {}
described kind.BackwardTaken entries = BackwardTaken record {}
described kind.Bimodal entries = Bimodal (untaught entries)

-- the tables of one that has them
abbrev pub tables_of : DescribedPredictor → Option Tables
tables_of (Bimodal tables) = Some tables
tables_of _ = None

-- each answers as its kind does
abbrev pub answer : DescribedPredictor → ℕ → Flow → ℕ
answer (NotTaken plain) pc flow = not_taken pc flow
answer (BackwardTaken plain) pc flow = backward_taken pc flow
answer (Bimodal tables) pc flow = bimodal tables pc flow

-- each after a lesson, of which the bimodal one alone keeps anything
abbrev pub taught : DescribedPredictor → Lesson → DescribedPredictor
taught (Bimodal tables) lesson = Bimodal (with_lesson tables lesson)
taught plain lesson = plain

-- what a described predictor answers, now and after lessons
abbrev pub guide_of : DescribedPredictor → Guide
guide_of predictor = guide_by (λ (p : DescribedPredictor) pc word. answer p pc (flow_at pc word)) taught predictor
