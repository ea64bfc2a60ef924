-- `search::below`: what falls at each call.
use Rattle.search.proofs.+below.Given as goal

abbrev pub decreases-below : goal.decreases-below
decreases-below l = l.c
