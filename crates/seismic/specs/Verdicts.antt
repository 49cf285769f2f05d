-- The verdict on a sheet, storey by storey from below.
use Rattle.std.specs.Prelude.{ℕ, List, [], ◌∷◌, Some, None, Option, map}
use Rattle.records.specs.declared.card.Card.{Card}
use Rattle.seismic.specs.declared.response.Response.{Response}
use Rattle.seismic.specs.declared.storey.Storey.{Storey}
use Rattle.seismic.specs.declared.verdict.Limit.{Limit}
use Rattle.seismic.specs.declared.verdict.Verdict.{Verdict}
use Rattle.seismic.specs.declared.verdict.Verdict.TheVariants.{Pass, Fail}
use Rattle.seismic.specs.Limits.{first_broken}
use Rattle.seismic.specs.Responses.{responses}

-- the verdict on one storey, by the first limit that it breaks
abbrev pub of_storey : ℕ → Option Limit → Verdict
of_storey storey None = Pass
of_storey storey (Some limit) = Fail storey limit

-- a verdict that fails stands, whatever is above
abbrev pub or_then : Verdict → Verdict → Verdict
or_then Pass above = above
or_then (Fail storey limit) above = Fail storey limit

-- the first of some verdicts that fails
abbrev pub first_failed : List Verdict → Verdict
first_failed [] = Pass
first_failed (v ∷ above) = or_then v (first_failed above)

abbrev pub judged : Card → Response → Verdict
judged card l = of_storey l.number (first_broken card l)

-- on storeys, from below
abbrev pub verdict_of : Card → List Storey → Verdict
verdict_of card storeys = first_failed (map (judged card) (responses card storeys))
