-- `stepper::step` meets its contract: what it calls comes to `step_done`. Assumes nothing.
use Rattle.std.proofs.Common.{◌≡◌, ◌∙◌, ap, sym, subst, List, ℕ, Ok, Err, arith}
use Rattle.bounded.specs.declared.Outcome.{Outcome}
use Rattle.bounded.specs.Lent.{lending}
use Rattle.shift.specs.declared.Run.{Run}
use Rattle.drive.specs.Models.{Lent, lent, Done, done}
use Rattle.begun.specs.declared.NotBegun.{NotBegun}
use Rattle.begun.specs.Begun.{outcome_of, ran_to}
use Rattle.stepper.specs.Start.{start_done, beginning, tables, step_by, step_done}
use Rattle.stepper.proofs.Answers.{Ending, Answered, answered}
use Rattle.stepper.proofs.step.Goals as goal

module _ (text : List ℕ) (n : ℕ) (m now : Lent) (r : Outcome) where
  -- a run that begins, and what that ends in; or none begins
  made : (t : List ℕ) (first last : Run) → Ok first ≡ beginning text n m → t ≡ tables text → done last now ≡ start_done t m first
      → r ≡ ran_to first last → done r now ≡ step_done text n m
  unfolding step_done
  made t first last begins fills starts ends =
      ap (λ (x : Outcome). done x now) ends
      ∙ ap (λ (d : Done Run). done (ran_to first d.result) d.memory) starts
      ∙ ap (λ (x : List ℕ). step_by x m (Ok first)) fills
      ∙ ap (step_by (tables text) m) begins

  says : Ending m → done r now ≡ step_done text n m → Answered (lending text n m.frames m.objects m.statics) r m now
  says ending e =
      subst (λ (d : Done Outcome). Answered (lending text n m.frames m.objects m.statics) d.result m d.memory) (sym e) (answered text n m ending)

none_made : (text : List ℕ) (n : ℕ) (m : Lent) (e : NotBegun) (r : Outcome) → Err e ≡ beginning text n m → r ≡ outcome_of e
    → done r m ≡ step_done text n m
unfolding step_done
none_made text n m e r begins ends = ap (λ (x : Outcome). done x m) ends ∙ ap (step_by (tables text) m) begins

pub returns-in-Ok : goal.returns-in-Ok
returns-in-Ok c =
    let m : Lent = lent c.args.frames.now c.args.objects.now c.args.statics.now in
    let now : Lent = lent c.start-last.new.frames c.start-last.new.objects c.start-last.new.statics in
    let ending : Ending m = record { frames = omega arith; objects = omega arith; statics = omega arith } in
    let all = says c.args.text.now c.args.n m now c.ended.result ending
    (made c.args.text.now c.args.n m now c.ended.result c.begin.new.t c.in-Ok.first c.start-last.result
    (sym c.in-Ok.is ∙ c.begin.ensures.begun) c.begin.ensures.tables c.start-last.ensures.after c.ended.ensures.value) in
    record { answer = all.0; memory = all.1 }

pub returns-in-Err : goal.returns-in-Err
returns-in-Err c =
    let m : Lent = lent c.args.frames.now c.args.objects.now c.args.statics.now in
    let ending : Ending m = record { frames = omega arith; objects = omega arith; statics = omega arith } in
    let all = says c.args.text.now c.args.n m m c.into.result ending
    (none_made c.args.text.now c.args.n m c.in-Err.e c.into.result (sym c.in-Err.is ∙ c.begin.ensures.begun) c.into.ensures) in
    record { answer = all.0; memory = all.1 }
