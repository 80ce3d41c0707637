-- Lines that are computed from the definitions, each as a person reads it. Assumes nothing.
use mathlib.Core.Path.{◌≡◌, refl}
use Rattle.std.specs.Prelude.{Ok, Err}
use Rattle.told.specs.Told.{number_of}
use Rattle.floor.specs.declared.Refusal.TheVariants.{Corners, StartOutside}
use Rattle.floor.specs.Look.{refusal_told}
use Rattle.route.specs.declared.Fault.TheVariants.{Length, NotStep}
use Rattle.route.specs.Judge.{fault_told, judged_told}
use Rattle.says.specs.Words.{bytes_of, words_of, floor_words_of, route_words_of}
use Rattle.line.specs.Decimal.{decimal_of, decimal_within}
use Rattle.line.specs.Line.{record_part, gap_of, line_of}

pub zero_is_one_digit : decimal_of 0 ≡ bytes_of "0"
unfolding decimal_of decimal_within bytes_of
zero_is_one_digit = refl

pub six_digits : decimal_of 131105 ≡ bytes_of "131105"
unfolding decimal_of decimal_within bytes_of
six_digits = refl

pub said_of_a_step : line_of (judged_told (Err (NotStep 3))) ≡ bytes_of "22 at record 3: not a permitted step\n"
unfolding judged_told fault_told number_of line_of record_part gap_of decimal_of decimal_within words_of floor_words_of route_words_of bytes_of
said_of_a_step = refl

pub said_of_a_length : line_of (judged_told (Err Length)) ≡ bytes_of "20: not 2 to 4,097 records of 32 bytes\n"
unfolding judged_told fault_told number_of line_of record_part gap_of decimal_of decimal_within words_of floor_words_of route_words_of bytes_of
said_of_a_length = refl

pub said_of_a_true_route : line_of (judged_told (Ok tt)) ≡ bytes_of "0 accepted\n"
unfolding judged_told fault_told number_of line_of record_part gap_of decimal_of decimal_within words_of floor_words_of route_words_of bytes_of
said_of_a_true_route = refl

pub complained_of_corners : line_of (refusal_told (Corners 1)) ≡ bytes_of "5 at record 1: a polygon's corners are wrong\n"
unfolding refusal_told number_of line_of record_part gap_of decimal_of decimal_within words_of floor_words_of route_words_of bytes_of
complained_of_corners = refl

pub complained_of_a_start : line_of (refusal_told StartOutside) ≡ bytes_of "8: the start is in no polygon\n"
unfolding refusal_told number_of line_of record_part gap_of decimal_of decimal_within words_of floor_words_of route_words_of bytes_of
complained_of_a_start = refl
