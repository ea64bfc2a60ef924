-- By computation: from a text to what is printed and told of its run, the sample; calls that printed lines say. Assumes nothing.
use mathlib.Core.Path.{◌≡◌, refl, ap}
use mathlib.Core.List.{[], ◌∷◌}
use Rattle.text.specs.Hex.{digit_of as read_digit}
use Rattle.page.specs.Digits.{digit_of, decimal_by}
use Rattle.instruction.specs.Word.{instruction_of, fields_of}
use Rattle.reader.specs.Read.{Reading}
use Rattle.reader.specs.Sample.{bytes_of, sample}
use Rattle.reader.proofs.Examples.{sample_reads}
use Rattle.machine.specs.Run.{step}
use Rattle.turn.specs.Stop.{stop_of}
use Rattle.bounded.specs.Bounded.{steps, bounded}
use Rattle.flow.proofs.Samples.{made}
use Rattle.rows.specs.State.{state_text}
use Rattle.words.specs.Words.{has_key, after_key, line_by}
use Rattle.response.specs.Claimed.{number_said, calls_said}
use Rattle.response.specs.Stepped.{run_said_of, run_said, run_told_of, run_told_for}

-- one step of the sample, and as many as it has
one_step : run_said (bytes_of sample) 1 ≡ bytes_of "stopped 16 00000001\nframe 00 00 00000000 00000000\nframe 01 00 00000000 00000000\n"
unfolding run_said bounded steps stop_of step instruction_of fields_of state_text digit_of
one_step = ap (λ (r : Reading). run_said_of r 1) sample_reads

all_steps : run_said (bytes_of sample) 1000 ≡ bytes_of "done 00000003\n"
unfolding run_said bounded steps stop_of step instruction_of fields_of state_text digit_of
all_steps = ap (λ (r : Reading). run_said_of r 1000) sample_reads

-- what is told of one step, with a table of one entry
one_told : run_told_for (bytes_of "\nn22 not ended\n") (bytes_of sample) 1 ≡ bytes_of "stop 22: not ended; method 1, address 0\n"
unfolding run_told_for bounded steps stop_of step instruction_of fields_of has_key after_key line_by decimal_by
one_told = ap (λ (r : Reading). run_told_of (bytes_of "\nn22 not ended\n") r 1) sample_reads

-- calls that two lines say
two_calls : calls_said (bytes_of "00 00 01\n0f 1f 0a\n") ≡ made 0 0 1 ∷ made 15 31 10 ∷ []
unfolding number_said read_digit
two_calls = refl
