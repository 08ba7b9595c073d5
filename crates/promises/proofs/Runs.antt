-- The runs to check, computed. Assumes nothing.
use mathlib.Core.Path.{refl}
use Rattle.octets.specs.Bytes.{bytes, spelled}
use Rattle.script.specs.Decimal.{decimal, digits_in}
use Rattle.script.specs.Kind.{kind_word}
use Rattle.card.proofs.Card.{card}
use Rattle.method.specs.Effect.{losers, points}
use Rattle.method.specs.Table.{row}
use Rattle.runfile.specs.First.{first_from}
use Rattle.runfile.specs.Layout.{record_bytes, call_of, file_of, trailer_bytes}
use Rattle.runfile.specs.Reading.{bad_call, first_call, first_turn, read_of}
use Rattle.bench.specs.Sound.{each_entry, entry_kept, sound}
use Rattle.bench.specs.Turn.{fresh_of, turn_of}
use Rattle.run.specs.Book.{enters, all_enter}
use Rattle.run.specs.Calls.{call_after}
use Rattle.run.specs.Run.{first_calls, noted, run_from}
use Rattle.lines.specs.Lines.{answered, line_text, lines_text, last_text, sheet_text}
use Rattle.script.specs.Output.{output_of}
use Rattle.sheet.specs.Report.{report_text, report_of}
use Rattle.promises.specs.Runs.{RunsToCheck}

pub runs_to_check : RunsToCheck
unfolding bytes spelled decimal digits_in losers points row first_from record_bytes call_of file_of trailer_bytes bad_call first_call first_turn read_of each_entry entry_kept sound fresh_of turn_of enters all_enter call_after first_calls noted run_from kind_word answered line_text lines_text last_text sheet_text report_text report_of output_of
runs_to_check = record { good = refl; reports = refl; register = card.r9 }
