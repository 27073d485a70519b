-- What the program's report of a replay holds, by the words of the command line. This project's own.
use Rattle.std.specs.Prelude.{Bool, true, false}
use Rattle.pair_report.specs.declared.options.Got.{Got}
use Rattle.pair_report.specs.declared.options.Got.TheVariants.{Hexadecimal, Text, LeftOut}
use Rattle.pair_report.specs.declared.options.ReportOptions.{ReportOptions}

-- messages as text, or as hexadecimal digits
abbrev pub shown_by : Bool → Got
shown_by true = Text
shown_by false = Hexadecimal

abbrev pub options_of : (texts long : Bool) → ReportOptions
options_of texts long = record { long = long; got = shown_by texts }

-- a trial has a long report without the messages
abbrev pub trial_options : ReportOptions
trial_options = record { long = true; got = LeftOut }
