-- The faults of a configuration in words.
use Rattle.std.specs.Prelude.{ℕ, List, ◌==◌, if◌then◌else◌, codes}
use Rattle.smol_types.specs.declared.fault.Need.{Need}
use Rattle.smol_types.specs.declared.fault.Need.TheVariants.{Dim, Boundaries, TimeStop, TimeStep, Point}
use Rattle.smol_types.specs.declared.fault.Kind.{Kind}
use Rattle.smol_types.specs.declared.fault.Kind.TheVariants.{UnknownStatement, UnknownName, RepeatedName, WrongWordCount, NotNumber, TooFine, OutOfRange, Missing, RepeatedStatement, BadOrder, OpenBlock, BadFace, BadAction, BadJump, BadReaction, ProbabilitySum, BadTiming, UnknownCommand, UnknownOutlet, TooMany, OutsideWalls, NotInProfile, BadByte, OpenComment, TooLong}

-- what is missing
abbrev pub need_text : Need → List ℕ
need_text Dim = codes "dim is missing"
need_text (Boundaries axis) =
    if axis == 0
    then codes "boundaries x is missing"
    else (if axis == 1 then codes "boundaries y is missing" else codes "boundaries z is missing")
need_text TimeStop = codes "time_stop is missing"
need_text TimeStep = codes "time_step is missing"
need_text Point = codes "point is missing"

-- what is printed behind the number of the line
abbrev pub kind_text : Kind → List ℕ
kind_text UnknownStatement = codes "unknown statement"
kind_text UnknownName = codes "unknown name"
kind_text RepeatedName = codes "name already used"
kind_text WrongWordCount = codes "wrong number of words"
kind_text NotNumber = codes "not a number"
kind_text TooFine = codes "number too fine"
kind_text OutOfRange = codes "out of range"
kind_text (Missing need) = need_text need
kind_text RepeatedStatement = codes "statement given twice"
kind_text BadOrder = codes "statement out of place"
kind_text OpenBlock = codes "block not closed"
kind_text BadFace = codes "not a face"
kind_text BadAction = codes "not an action"
kind_text BadJump = codes "bad jump"
kind_text BadReaction = codes "bad reaction"
kind_text ProbabilitySum = codes "probabilities exceed 1"
kind_text BadTiming = codes "bad timing"
kind_text UnknownCommand = codes "unknown command"
kind_text UnknownOutlet = codes "unknown output file"
kind_text TooMany = codes "too many"
kind_text OutsideWalls = codes "outside the walls"
kind_text NotInProfile = codes "not in this profile"
kind_text BadByte = codes "byte not allowed"
kind_text OpenComment = codes "comment not closed"
kind_text TooLong = codes "file too long"
