-- W1 to W12, by one statement over the table of the marked cases, and the whole case of the frames, through the program's definition: both computed.
use mathlib.Core.Path.{◌≡◌, refl}
use mathlib.Core.List.{map, flat_map}
use Rattle.rules.specs.Lists.{first, any, keep, sum}
use Rattle.rules.specs.RoomAndSoundLedger.{M, order, same, holds_place, seat_in, committed_total, fresh}
use Rattle.rules.specs.AnswerNumbers.{on_lent}
use Rattle.rules.specs.AccountRules.{ensure_rule, top_up_rule, limit_rule, reserve_rule, commit_rule, release_rule, put, freed, seated, booked, ended, perform, settle, on_name, on_booking, operate}
use Rattle.rules.specs.SnapshotsMigrationCertificates.{bytes_of, number_from, row_bytes, snapshot_bytes, read_part, read_number, read_amount, read_name, has_long_name, account_rows, taking_snapshot, snapshot, ◌gives◌else◌, and_then, row_conservation, conservation, row_validation, rows_validation, validation, restore_version, restored_places, or_else, restore_refusal, restore}
use Rattle.rules.specs.Frames.{bytes_of_line, codes, read_operation, operation_of, answer, reply_bytes, line_of_bytes, answer_line, operation_of_line, answer_to_line, pieces, counted, lines_of, answers_to_lines, house}
use Rattle.rules.specs.MarkedCases.{characters_of, Q1, marked_cases, last_answer, ran, text_of, whole_case_input, whole_case_output}

pub marked-cases : map ran marked_cases ≡ marked_cases
unfolding first any keep sum M order same holds_place seat_in committed_total fresh on_lent ensure_rule top_up_rule limit_rule reserve_rule commit_rule release_rule put freed seated booked ended perform settle on_name on_booking operate bytes_of row_bytes flat_map snapshot_bytes has_long_name account_rows taking_snapshot snapshot ◌gives◌else◌ and_then row_conservation conservation row_validation rows_validation validation restore_version restored_places restore_refusal or_else restore answer characters_of Q1 marked_cases last_answer ran
marked-cases = refl

pub whole-case : house whole_case_input ≡ whole_case_output
unfolding first any keep sum M order same holds_place seat_in committed_total fresh on_lent ensure_rule top_up_rule limit_rule reserve_rule commit_rule release_rule put freed seated booked ended perform settle on_name on_booking operate bytes_of number_from row_bytes flat_map snapshot_bytes read_part read_number read_amount read_name account_rows taking_snapshot snapshot bytes_of_line codes read_operation operation_of answer reply_bytes line_of_bytes answer_line operation_of_line answer_to_line pieces counted lines_of answers_to_lines house characters_of text_of whole_case_input whole_case_output
whole-case = refl
