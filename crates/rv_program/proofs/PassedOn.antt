-- What an output holds once the buffer before it is gone.
use Rattle.std.proofs.Common.{◌≡◌, ℕ, List, [], ◌++◌, length, take, drop, Option, Some, arith, None, sym, ap, ◌∙◌}
use Rattle.std.proofs.Common.{subst, append-nil, append_assoc}
use Rattle.std.specs.Prelude.{Result, Ok, Err}
use Rattle.std.specs.Io.Buffered.{writer_buffer, writer_contents, writer_inner}
use Rattle.std.specs.Io.KnownBytes.{Appends, Keeps}
use Rattle.std.specs.declared.io.buffered.BufWriter.{BufWriter}
use Rattle.std.proofs.Math.Seq.{take-length}
use Rattle.std.proofs.lemmas.List.{take-append-drop}
use Rattle.rv_front.specs.Guide.{Guide}
use Rattle.rv_job.specs.declared.errors.SimError.{SimError}
use Rattle.rv_job.specs.declared.errors.SimError.TheVariants.{Memory, WriteFailed}
use Rattle.rv_text.proofs.Writing.{Appends-kept, Appends-same}
use Rattle.rv_program.specs.Output.{HoldsBeginning, PassesOn}
use Rattle.rv_program.specs.Program.{EndsPassedOn}
use Rattle.rv_program.specs.Task.{Ends}
use Rattle.rv_program.specs.declared.{ended.Ended.Ended, task.Task.Task}

-- an empty buffer adds nothing to what its output holds
pub begun : {W A : Type 0} (contents : W → Option (List ℕ)) (buffer : BufWriter W A) (output : W)
    → writer_inner buffer ≡ output → writer_buffer buffer ≡ [] → writer_contents contents buffer ≡ contents output
begun contents buffer output is empty = grind (arith, contents, append-nil)

-- a beginning of what was kept
pub kept_left : (old held new : Option (List ℕ)) → Keeps old held → HoldsBeginning held new [] →
    HoldsBeginning old new []
kept_left old held new kept left = grind arith

-- a beginning of what had grown by the front of a text
grown_left : (old held new : Option (List ℕ)) (n : ℕ) (text : List ℕ) → Appends old held (take n text) →
    HoldsBeginning held new [] → HoldsBeginning old new text
grown_left None held new n text grown left = tt
grown_left (Some old) None new n text grown left = absurd grown
grown_left (Some old) (Some held) None n text grown left = absurd left
grown_left (Some old) (Some held) (Some new) n text grown (rest, is) = (
  rest ++ drop n text,
  sym (append_assoc new rest (drop n text))
      ∙ ap (λ l. l ++ drop n text) (is ∙ append-nil held ∙ grown)
      ∙ append_assoc old (take n text) (drop n text)
      ∙ ap (λ l. old ++ l) (take-append-drop n text),
)

-- a task that ended into a buffer, which was passed on
pub ended_passed_on : (task : Task) (predictor : Guide) (old held new : Option (List ℕ))
    (ended outcome : Result Ended SimError)
    → Ends task predictor old held ended → PassesOn ended outcome held new → EndsPassedOn task predictor old new outcome
ended_passed_on task predictor old held new (Ok ended) (Ok _) (text, shows, appended) (same, kept) =
    subst (λ s. EndsPassedOn task predictor old new (Ok s)) (sym same)
    (text, shows, Appends-kept old held new text appended kept)
ended_passed_on task predictor old held new (Ok ended) (Err WriteFailed) (text, shows, appended) left = (
  text,
  ended,
  shows,
  grown_left old held new (length text) text
      (Appends-same old held _ _ (sym (take-length text)) appended) left,
)
ended_passed_on task predictor old held new (Ok ended) (Err _) ends never = absurd never
ended_passed_on task predictor old held new (Err error) (Ok _) ends never = absurd never
ended_passed_on task predictor old held new (Err WriteFailed) (Err outcome) (
  text,
  ended,
  shows,
  (n, within, grown),
) (same, left) = grind (arith, grown_left)
ended_passed_on task predictor old held new (Err Memory) (Err outcome) (asks, kept) (same, left) =
    subst (λ e. EndsPassedOn task predictor old new (Err e)) (sym same) (asks, kept_left old held new kept left)
ended_passed_on task predictor old held new (Err _) (Err outcome) never passes = absurd never
