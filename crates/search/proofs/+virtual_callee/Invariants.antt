-- `search::virtual_callee`: what falls at each call.
use Rattle.search.proofs.+virtual_callee.Given as goal

abbrev pub decreases-virtual_callee : goal.decreases-virtual_callee
decreases-virtual_callee l = l.c
