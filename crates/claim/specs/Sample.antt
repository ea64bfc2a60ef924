-- Document 01's sample claim as its text. Definitions only.
use Prim.Native.String.{String, ◌++◌}

-- masks as they stand in a text: zero's bit, and no bit
abbrev pub zeros : String
zeros = "4000000000000000"

abbrev pub none : String
none = "0000000000000000"

-- the sample's claim: "every register, result and returned mask 4000000000000000 and both exception masks zero"
abbrev pub addresses : String
addresses = "110000" ++ zeros ++ zeros ++ "\n110001" ++ zeros ++ zeros ++ "\n110100" ++ zeros ++ zeros ++ "\n"

abbrev pub results : String
results = "1400" ++ zeros ++ "\n1401" ++ zeros ++ "\n"

abbrev pub exceptions : String
exceptions = "1500" ++ none ++ "\n1501" ++ none ++ "\n"

abbrev pub sample_claim : String
sample_claim = addresses ++ results ++ exceptions
