-- `wording::size::frame_size` meets its contract. Assumes nothing.
use mathlib.Core.Path.{sym, ◌∙◌}
use native.Mathlib.Omega.{arith}
use Rattle.program.specs.Tables.{program_in}
use Rattle.wording.proofs.Lengths.{frame_size_lem, no_frame_lem, frame_few}
use Rattle.wording.proofs.size.frame_size.Goals as goal

pub overflow_add-result : goal.overflow_add-result
overflow_add-result c =
    let a = c.args in
    let few = frame_few (program_in a.t.now) a.k a.a a.b in
    rw c.frame_of-f.ensures.value (omega (arith, few.0, few.1))

pub overflow_mul-result : goal.overflow_mul-result
overflow_mul-result c =
    let a = c.args in
    let few = frame_few (program_in a.t.now) a.k a.a a.b in
    rw c.frame_of-f.ensures.value (omega (arith, few.0, few.1))

pub overflow_add-result-then-present : goal.overflow_add-result-then-present
overflow_add-result-then-present c =
    let a = c.args in
    let few = frame_few (program_in a.t.now) a.k a.a a.b in
    rw c.frame_of-f.ensures.value (omega (arith, few.0, few.1))

pub overflow_add-result-then-present-2 : goal.overflow_add-result-then-present-2
overflow_add-result-then-present-2 c =
    let a = c.args in
    let few = frame_few (program_in a.t.now) a.k a.a a.b in
    rw c.frame_of-f.ensures.value (omega (arith, few.0, few.1))

pub returns-then-present : goal.returns-then-present
returns-then-present c =
    let a = c.args in
    let p = program_in a.t.now in
    let present = sym c.present.ensures.value ∙ c.if-present.true in
    let few = frame_few p a.k a.a a.b in
    record {
      value = λ cl. rw c.frame_of-f.ensures.value (frame_size_lem cl p a.k a.a a.b present);
      range = rw c.frame_of-f.ensures.value (omega (arith, few.0, few.1));
    }

pub returns : goal.returns
returns c =
    let a = c.args in
    record { value = λ cl. no_frame_lem cl (program_in a.t.now) a.k a.a a.b (sym c.present.ensures.value ∙ c.if-present.false); range = omega arith }
