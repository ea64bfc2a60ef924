-- The loop that stays in the top frame: what holds before each turn, and after the last. Assumes nothing.
use mathlib.Core.Path.{◌≡◌, refl, sym, ap, subst, ◌∙◌}
use mathlib.Core.Bool.{false, ◌&&◌}
use mathlib.Core.List.{List, [], ◌∷◌}
use Prim.Native.Nat.{ℕ, zero, suc, ◌-◌, ◌≤◌, ◌<◌}
use native.Mathlib.Omega.{arith}
use lib.Dec.{ltb}
use borrow.Author.Tests.{ltb-true, ltb-false, lt-ltb}
use Rattle.text.proofs.Cases.{both_true}
use Rattle.instruction.specs.Word.{pick}
use Rattle.program.specs.Program.{code_length}
use Rattle.program.specs.Tables.{program_in}
use Rattle.reader.specs.Formed.{Formed}
use Rattle.machine.specs.State.{Frame, State, running}
use Rattle.machine.proofs.Continues.{At}
use Rattle.instruction.proofs.Flags.{pick_cases}
use Rattle.turn.specs.declared.Status.TheVariants.{Running}
use Rattle.turn.specs.declared.Tally.{Tally}
use Rattle.site.specs.declared.Gone.{Gone}
use Rattle.site.specs.declared.How.{How}
use Rattle.site.specs.declared.How.TheVariants.{Went, Leaves, Raises, Failed}
use Rattle.site.specs.declared.Site.{Site}
use Rattle.shift.specs.declared.Run.{Run}
use Rattle.shift.specs.declared.Stay.{Stay}
use Rattle.shift.specs.Stay.{is_went, site_of, went_to, stay_of}
use Rattle.shift.specs.Places.{preceding_of}
use Rattle.shift.proofs.Places.{preceding_is}
use Rattle.drive.specs.Models.{Lent, Done, done, looped}
use Rattle.drive.proofs.Turns.{turn_over}
use Rattle.work.specs.Work.{performed}
use Rattle.lies.specs.Lies.{status_of, Roomy}
use Rattle.lies.specs.Staying.{site_at, Undone, LeftBy, StayedBy}
use Rattle.lies.proofs.Staying.{stayed}
use Rattle.rounds.specs.Rounds.{one_done, goes, method_in, address_in, stay_in}
use Rattle.ran.specs.Ran.{Going}
use Rattle.ran.specs.Rounding.{Standing, Here, PausedBy, Paused, NextBy}
use Rattle.ran.proofs.Steps.{as_many, goes_on}
use Rattle.ran.proofs.Begins.{last, outside_stops, small, standing, nowhere}

module _ (t : List ℕ) (formed : Formed (program_in t)) (n : ℕ) (s : State) (before : Lent) (roomy : Roomy before) where
  -- ---- the turns
  module _ (u : Tally) (run : u.status ≡ Running) where
    module _ (k : Stay) (now : Lent) (w : Standing (program_in t) n s before u k now) where
      runs : w.going.state.status ≡ running
      runs = sym w.going.lies.status ∙ ap status_of run

      at : w.frame.address < code_length (program_in t) w.frame.method → At (program_in t) w.going.state running w.frame w.rest
      at l = record { status = runs; frames = w.frames; inside = l }

      site : w.frame.address < code_length (program_in t) w.frame.method → site_of (program_in t) k ≡ site_at (program_in t) w.frame w.rest
      site l = rw (w.top, w.method, w.pc, small (program_in t) formed w.frame.method w.frame.address l)

      -- a step that was counted is given back
      again : 0 < k.left → suc (preceding_of k.left) ≡ k.left
      again more = rw (preceding_is k.left more) (omega (arith, more))

      -- where nothing was done, it is the next instruction still
      undone : 0 < k.left → w.frame.address < code_length (program_in t) w.frame.method → (r : Done Gone) (h : How)
          → Undone now w.frame r → LeftBy (program_in t) w.going.state w.frame w.rest h
          → Here (program_in t) n s before u (went_to k r.result) r.memory h
      undone more l r h still left =
          rw still.0
          (record {
            going = as_many (program_in t) n k.left s before u now w.going (suc (preceding_of k.left)) (again more);
            frame = w.frame;
            rest = w.rest;
            at = at l;
            method = w.method;
            pc = still.1;
            left = left;
          })

      -- what the instruction comes to
      next : 0 < k.left → w.frame.address < code_length (program_in t) w.frame.method → (r : Done Gone) (h : How) → r.result.how ≡ h
          → StayedBy (program_in t) w.going.state before u now w.frame w.rest r h
          → NextBy (program_in t) n s before u (done (went_to k r.result) r.memory) h
      next more l r Went e st =
          record {
            going =
                as_many (program_in t) n (k.left - 1) s before u r.memory
                (goes_on (program_in t) n k.left s before u now w.going formed more u r.memory st.0 st.1.0)
                (preceding_of k.left) (preceding_is k.left more);
            frame = st.1.1.frame;
            rest = w.rest;
            frames = st.1.1.frames;
            top = w.top;
            method = w.method ∙ sym st.1.1.method;
            pc = sym st.1.1.address;
            how = e;
          }
      next more l r Leaves e st = undone more l r Leaves st.0 st.1
      next more l r (Raises c) e st = undone more l r (Raises c) st.0 st.1
      next more l r (Failed f) e st = undone more l r (Failed f) st.0 st.1

      one : 0 < k.left → w.frame.address < code_length (program_in t) w.frame.method
          → NextBy (program_in t) n s before u (one_done t now k) (one_done t now k).result.how
      one more l =
          let r : Done Gone = performed t now (site_at (program_in t) w.frame w.rest) in
          subst
          (λ (x : Site). NextBy (program_in t) n s before u (done (went_to k (performed t now x).result) (performed t now x).memory) (performed t now x).result.how)
          (sym (site l))
          (next more l r r.result.how refl
          (stayed t formed w.going.state before roomy u now w.going.shaped w.going.lies w.frame w.rest (at l)))

      -- the loop ends here: no step is left, or the address lies outside
      over : (0 < k.left → code_length (program_in t) w.frame.method ≤ w.frame.address) → Paused (program_in t) n s before u (done k now)
      over out =
          subst (PausedBy (program_in t) n s before u k now) (sym w.how)
          (w.going, λ more. outside_stops (program_in t) w.going.state w.frame w.rest runs w.frames (out more))

    -- where an instruction did not go to another address, no further turn is made
    last_turn : (i : ℕ) (d : Done Stay) (h : How) → d.result.how ≡ h → is_went h ≡ false
        → PausedBy (program_in t) n s before u d.result d.memory h
        → Paused (program_in t) n s before u (looped goes one_done t i d.memory d.result)
    last_turn i d h e off st =
        subst (Paused (program_in t) n s before u) (turn_over goes one_done t i d.memory d.result (rw (e, off) tt))
        (subst (PausedBy (program_in t) n s before u d.result d.memory) (sym e) st)

    -- a turn, by how its instruction ended
    turned : (i : ℕ) (d : Done Stay) (h : How) → d.result.how ≡ h → NextBy (program_in t) n s before u d h
        → (Standing (program_in t) n s before u d.result d.memory → Paused (program_in t) n s before u (looped goes one_done t i d.memory d.result))
        → Paused (program_in t) n s before u (looped goes one_done t i d.memory d.result)
    turned i d Went e st on = on st
    turned i d Leaves e st on = last_turn i d Leaves e refl st
    turned i d (Raises c) e st on = last_turn i d (Raises c) e refl st
    turned i d (Failed f) e st on = last_turn i d (Failed f) e refl st

    turns : (k : Stay) (now : Lent) (w : Standing (program_in t) n s before u k now) (d : Done Stay)
        → (0 < k.left → w.frame.address < code_length (program_in t) w.frame.method → Paused (program_in t) n s before u d)
        → Paused (program_in t) n s before u (pick (goes t k) d (done k now))
    turns k now w d on =
        pick_cases (Paused (program_in t) n s before u) (goes t k) d (done k now)
        (λ e.
        let both = both_true (is_went k.how && ltb 0 k.left) (ltb k.pc (code_length (program_in t) k.method)) e in
        on (ltb-true 0 k.left (both_true (is_went k.how) (ltb 0 k.left) both.0).1)
        (rw (sym w.pc, sym w.method) (ltb-true k.pc (code_length (program_in t) k.method) both.1)))
        (λ e.
        over k now w
        (λ more.
        rw (sym w.pc, sym w.method)
        (ltb-false k.pc (code_length (program_in t) k.method)
        (last (is_went k.how) (ltb 0 k.left) (ltb k.pc (code_length (program_in t) k.method)) (ap is_went w.how) (lt-ltb 0 k.left more) e))))

    loop : (i : ℕ) (k : Stay) (now : Lent) → k.left ≤ i → Standing (program_in t) n s before u k now → Paused (program_in t) n s before u (looped goes one_done t i now k)
    unfolding looped
    loop zero k now l w = over k now w (λ more. absurd (omega arith))
    loop (suc i) k now l w =
        turns k now w (looped goes one_done t i (one_done t now k).memory (one_done t now k).result)
        (λ more inside.
        let fewer : (one_done t now k).result.left ≡ k.left - 1 = preceding_is k.left more in
        turned i (one_done t now k) (one_done t now k).result.how refl (one k now w more inside)
        (λ st. loop i (one_done t now k).result (one_done t now k).memory (omega (arith, fewer, l, more)) st))

  -- ---- the loop, of a run
  module _ (k : Run) (now : Lent) (run : k.tally.status ≡ Running) (g : Going (program_in t) n k.left s before k.tally now) where
    by_frames : (fs : List Frame) → g.state.frames ≡ fs → Paused (program_in t) n s before k.tally (stay_in t now k)
    by_frames [] e = nowhere t formed n s before roomy k now run g e
    by_frames (f ∷ rest) e =
        loop k.tally run k.left (stay_of k (method_in now k) (address_in now k)) now (omega arith)
        (standing (program_in t) n s before k now g roomy f rest e)

    pub paused : Paused (program_in t) n s before k.tally (stay_in t now k)
    paused = by_frames g.state.frames refl
