-- How many bytes an answer takes at most, by what it carries behind its number: words of eight bytes, a name with its length in front, a field's byte.
use Rattle.std.specs.Prelude.{ℕ, ◌+◌, ◌*◌}
use Rattle.rules.specs.RoomAndSoundLedger.{longest_name}

abbrev pub one_word : ℕ
one_word = 1 + 8

abbrev pub two_words : ℕ
two_words = one_word + 8

abbrev pub three_words : ℕ
three_words = two_words + 8

abbrev pub named : ℕ
named = 1 + (1 + longest_name)

abbrev pub named_word : ℕ
named_word = named + 8

abbrev pub named_field : ℕ
named_field = named + 1 + 8

-- a certificate is the longest answer that hands out no snapshot: its number, three words, a yes or no, both totals, a yes or no, and since
abbrev pub longest_other_answer : ℕ
longest_other_answer = 1 + 3 * 8 + 1 + 2 * 8 + 1 + 8
