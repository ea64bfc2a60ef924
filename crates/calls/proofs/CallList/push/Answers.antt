-- `calls::CallList::push` meets its contract. Assumes nothing.
use Rattle.std.proofs.Common.{ℕ, ◌+◌, ◌*◌, List, refl, ap, ◌∙◌, set}
use Rattle.calls.proofs.Writing.{added_one}
use Rattle.calls.proofs.CallList.push.Goals as goal

pub returns : goal.returns
returns c =
    let a = c.args in
    let at = 3 * a.self.now.count in
    record {
      added = added_one (record { caller = a.m; address = a.pc; callee = a.q }) refl refl
          (c.put-3.ensures.memory
          ∙ ap (λ (l : List ℕ). set l (at + 2) a.q)
          (c.put-2.ensures.memory ∙ ap (λ (l : List ℕ). set l (at + 1) a.pc) c.put.ensures.memory));
    }
