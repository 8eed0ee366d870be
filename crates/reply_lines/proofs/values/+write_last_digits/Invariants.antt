-- One digit less.
use Rattle.reply_lines.proofs.values.+write_last_digits.Given as goal

abbrev pub decreases-write_last_digits : goal.decreases-write_last_digits
decreases-write_last_digits g l = l.count
