-- Characters by name, and the bounds of their codes.
use Rattle.std.specs.Prelude.{ℕ}

abbrev pub tab : ℕ
tab = 9

abbrev pub line_feed : ℕ
line_feed = 10

abbrev pub carriage_return : ℕ
carriage_return = 13

abbrev pub space : ℕ
space = 32

abbrev pub next_line : ℕ
next_line = 0x85

abbrev pub left_to_right_mark : ℕ
left_to_right_mark = 0x200E

abbrev pub right_to_left_mark : ℕ
right_to_left_mark = 0x200F

abbrev pub line_separator : ℕ
line_separator = 0x2028

abbrev pub paragraph_separator : ℕ
paragraph_separator = 0x2029

-- `!`
abbrev pub exclamation_mark : ℕ
exclamation_mark = 33

-- `"`
abbrev pub double_quote : ℕ
double_quote = 34

-- `#`
abbrev pub number_sign : ℕ
number_sign = 35

-- `$`
abbrev pub dollar : ℕ
dollar = 36

-- `%`
abbrev pub percent : ℕ
percent = 37

-- `&`
abbrev pub ampersand : ℕ
ampersand = 38

-- `'`
abbrev pub quote : ℕ
quote = 39

-- `(`
abbrev pub open_paren : ℕ
open_paren = 40

-- `)`
abbrev pub close_paren : ℕ
close_paren = 41

-- `*`
abbrev pub star : ℕ
star = 42

-- `+`
abbrev pub plus : ℕ
plus = 43

-- `,`
abbrev pub comma : ℕ
comma = 44

-- `-`
abbrev pub minus : ℕ
minus = 45

-- `.`
abbrev pub dot : ℕ
dot = 46

-- `/`
abbrev pub slash : ℕ
slash = 47

-- `0`
abbrev pub digit_zero : ℕ
digit_zero = 48

-- `:`
abbrev pub colon : ℕ
colon = 58

-- `;`
abbrev pub semicolon : ℕ
semicolon = 59

-- `<`
abbrev pub less_than : ℕ
less_than = 60

-- `=`
abbrev pub equals : ℕ
equals = 61

-- `>`
abbrev pub greater_than : ℕ
greater_than = 62

-- `?`
abbrev pub question_mark : ℕ
question_mark = 63

-- `@`
abbrev pub at_sign : ℕ
at_sign = 64

-- `E`
abbrev pub capital_e : ℕ
capital_e = 69

-- `[`
abbrev pub open_bracket : ℕ
open_bracket = 91

-- `\`
abbrev pub backslash : ℕ
backslash = 92

-- `]`
abbrev pub close_bracket : ℕ
close_bracket = 93

-- `^`
abbrev pub caret : ℕ
caret = 94

-- `_`
abbrev pub underscore : ℕ
underscore = 95

abbrev pub small_b : ℕ
small_b = 98

abbrev pub small_c : ℕ
small_c = 99

abbrev pub small_e : ℕ
small_e = 101

abbrev pub small_n : ℕ
small_n = 110

abbrev pub small_o : ℕ
small_o = 111

abbrev pub small_r : ℕ
small_r = 114

abbrev pub small_t : ℕ
small_t = 116

abbrev pub small_u : ℕ
small_u = 117

abbrev pub small_x : ℕ
small_x = 120

-- `{`
abbrev pub open_brace : ℕ
open_brace = 123

-- `|`
abbrev pub bar : ℕ
bar = 124

-- `}`
abbrev pub close_brace : ℕ
close_brace = 125

-- `~`
abbrev pub tilde : ℕ
tilde = 126

-- the codes of ASCII are below it
abbrev pub ascii_bound : ℕ
ascii_bound = 128

-- bytes are below it
abbrev pub byte_bound : ℕ
byte_bound = 256
