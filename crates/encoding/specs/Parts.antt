-- Values that can be missing. Assumes nothing.
--
--   missing_moment   what is written in the place of a moment that is not given
use Rattle.times.specs.declared.moments.Moment.{Moment}
use Rattle.layout.specs.Layout.{missing4}

abbrev pub missing_moment : Moment
missing_moment = record { day = missing4; second = missing4 }
