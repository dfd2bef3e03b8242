-- The refusals: their numbers, and the texts that explain each (project rules).
use Rattle.std.specs.Prelude.{◌==◌, ◌&&◌, ◌||◌, ◌≤◌, ◌+◌, ◌-◌, ◌++◌, ◌∷◌, [], ℕ, Bool, List, None}
use Rattle.std.specs.Prelude.{Option, codes, if◌then◌else◌, length, nat_le, nat_lt, not}
use Rattle.std.specs.Prelude.{option_map, slice_get}
use Rattle.std.specs.List.{list_all, position}
use Rattle.std.specs.Str.{bytes_eq}
use Rattle.lang_core.specs.Fault.{meaning_of}
use Rattle.front_core.specs.declared.refusal.Refusal.{Refusal}
use Rattle.lang_core.specs.declared.fault.LangFault.TheVariants as lang

-- a refusal has the number: each from 1 to 31 is one
abbrev pub IsRefusalNumber : ℕ → Type 0
IsRefusalNumber number = (1 ≤ number) × (number ≤ 31)

-- its word, and what is printed, what is wanted, what there is instead, and what to do, each
-- without an end mark
pub record RefusalTexts : Type 0 where
  pub code : List ℕ
  pub text : List ℕ
  pub meaning : List ℕ
  pub cause : List ℕ
  pub remedy : List ℕ

-- what refusal 1 means, what causes it, and what to do
abbrev texts_1 : RefusalTexts
texts_1 =
    record {
      code = codes "tag-empty";
      text = codes "tag is empty";
      meaning =
          meaning_of lang.TagEmpty;
      cause =
          codes "the tag is empty";
      remedy =
          codes "write a tag, or @none for no language";
    }

-- what refusal 2 means, what causes it, and what to do
abbrev texts_2 : RefusalTexts
texts_2 =
    record {
      code = codes "tag-too-long";
      text = codes "tag is over 255 bytes";
      meaning =
          meaning_of lang.TagTooLong;
      cause =
          codes "the tag is longer; the limit is our own";
      remedy =
          codes "shorten it; no real tag is this long";
    }

-- what refusal 3 means, what causes it, and what to do
abbrev texts_3 : RefusalTexts
texts_3 =
    record {
      code = codes "subtag-malformed";
      text = codes "subtag at OFFSET";
      meaning =
          meaning_of (lang.TagSubtag 0);
      cause =
          codes "the subtag that begins at OFFSET is empty, too long, or has another byte: "
          ++ codes "mostly an underscore (fr_CA), a blank, or a doubled or last hyphen";
      remedy =
          codes "look there; in language maps check also that no message is where a language "
          ++ codes "belongs";
    }

-- what refusal 4 means, what causes it, and what to do
abbrev texts_4 : RefusalTexts
texts_4 =
    record {
      code = codes "tag-malformed";
      text = codes "tag is not well-formed";
      meaning =
          meaning_of lang.TagNotWellFormed;
      cause =
          codes "each subtag is well-formed, but their order is not that of RFC 5646 section "
          ++ codes "2.1";
      remedy =
          codes "put the subtags in that order";
    }

-- what refusal 5 means, what causes it, and what to do
abbrev texts_5 : RefusalTexts
texts_5 =
    record {
      code = codes "range-empty";
      text = codes "range is empty";
      meaning =
          meaning_of lang.RangeEmpty;
      cause =
          codes "the range is empty";
      remedy =
          codes "write a range; * is any language";
    }

-- what refusal 6 means, what causes it, and what to do
abbrev texts_6 : RefusalTexts
texts_6 =
    record {
      code = codes "range-too-long";
      text = codes "range is over 255 bytes";
      meaning =
          meaning_of lang.RangeTooLong;
      cause =
          codes "the range is longer; the limit is our own";
      remedy =
          codes "shorten it; no real range is this long";
    }

-- what refusal 7 means, what causes it, and what to do
abbrev texts_7 : RefusalTexts
texts_7 =
    record {
      code = codes "range-malformed";
      text = codes "range subtag at OFFSET";
      meaning =
          meaning_of (lang.RangeSubtag 0);
      cause =
          codes "the subtag that begins at OFFSET is not allowed there";
      remedy =
          codes "look there; extended ranges take * anywhere";
    }

-- what refusal 8 means, what causes it, and what to do
abbrev texts_8 : RefusalTexts
texts_8 =
    record {
      code = codes "field-too-long";
      text = codes "field is over 65535 bytes";
      meaning =
          codes "a field has at most 65535 bytes";
      cause =
          codes "an Accept-Language field or a list of ranges is longer; the limit is our own, "
          ++ codes "and no browser sends one this long";
      remedy =
          codes "refuse the request, or go on as if the field were *";
    }

-- what refusal 9 means, what causes it, and what to do
abbrev texts_9 : RefusalTexts
texts_9 =
    record {
      code = codes "field-malformed";
      text = codes "field element at OFFSET";
      meaning =
          codes "each element of a field is a range, with or without a weight (RFC 9110 "
          ++ codes "sections 12.4.2 and 12.5.4)";
      cause =
          codes "the element that begins at OFFSET is malformed: mostly its weight is over 1, "
          ++ codes "has four decimals or a blank around =, or its range has an underscore for "
          ++ codes "a hyphen";
      remedy =
          codes "look there; a front end may go on as if the field were *, or skip what is "
          ++ codes "malformed with --lenient";
    }

-- what refusal 10 means, what causes it, and what to do
abbrev texts_10 : RefusalTexts
texts_10 =
    record {
      code = codes "id-invalid";
      text = codes "message id";
      meaning =
          codes "a message id has 1 to 128 bytes, no control character, and no @ first";
      cause =
          codes "the id is empty, too long, not UTF-8, or has such a character; often a whole "
          ++ codes "text is used as an id";
      remedy =
          codes "give the message another id";
    }

-- what refusal 11 means, what causes it, and what to do
abbrev texts_11 : RefusalTexts
texts_11 =
    record {
      code = codes "text-too-long";
      text = codes "text INDEX is over 65535 bytes";
      meaning =
          codes "each text of a label has at most 65535 bytes";
      cause =
          codes "the text INDEX is longer; the limit is our own";
      remedy =
          codes "cut the text in two";
    }

-- what refusal 12 means, what causes it, and what to do
abbrev texts_12 : RefusalTexts
texts_12 =
    record {
      code = codes "text-count";
      text = codes "label has COUNT texts";
      meaning =
          codes "a label has 1 to 64 texts";
      cause =
          codes "the label has COUNT texts";
      remedy =
          codes "put at most 64 texts; if there is none, delete the label";
    }

-- what refusal 13 means, what causes it, and what to do
abbrev texts_13 : RefusalTexts
texts_13 =
    record {
      code = codes "duplicate-timestamp";
      text = codes "one stamp is used for two different edits, cell PLACE";
      meaning =
          codes "two different edits of a message in a language have two timestamps";
      cause =
          codes "cell PLACE of the receiving site is the first whose timestamp another edit "
          ++ codes "has too: two sites have one name, or a site was put back to an older copy";
      remedy =
          codes "edit the message in that language again, which ends the conflict; if two "
          ++ codes "sites have one name, rename one; if a site was put back, it must send a new summary";
    }

-- what refusal 14 means, what causes it, and what to do
abbrev texts_14 : RefusalTexts
texts_14 =
    record {
      code = codes "clock-exhausted";
      text = codes "clock is spent";
      meaning =
          codes "an edit has a timestamp later than all that its site has";
      cause =
          codes "no later timestamp is left: a time far ahead was merged";
      remedy =
          codes "drop the cells of that time from all sites at once, as docs/RECIPES.md says "
          ++ codes "under A time far ahead";
    }

-- what refusal 15 means, what causes it, and what to do
abbrev texts_15 : RefusalTexts
texts_15 =
    record {
      code = codes "wrong-addressee";
      text = codes "delta is for another site";
      meaning =
          codes "a delta is applied to the site that it was made for";
      cause =
          codes "the delta was made for the site ADDRESSEE";
      remedy =
          codes "apply it to that site";
    }

-- what refusal 16 means, what causes it, and what to do
abbrev texts_16 : RefusalTexts
texts_16 =
    record {
      code = codes "unknown-site";
      text = codes "step STEP names no site";
      meaning =
          codes "a step of a script names a site of the script";
      cause =
          codes "step STEP names a site that is not there";
      remedy =
          codes "count sites from 0";
    }

-- what refusal 17 means, what causes it, and what to do
abbrev texts_17 : RefusalTexts
texts_17 =
    record {
      code = codes "unknown-post";
      text = codes "step STEP names no post";
      meaning =
          codes "a step of a script names what an earlier step sent or posted";
      cause =
          codes "step STEP names a summary that was not sent before it, or a post that was "
          ++ codes "not made before it";
      remedy =
          codes "count sent summaries and posts from 0";
    }

-- what refusal 18 means, what causes it, and what to do
abbrev texts_18 : RefusalTexts
texts_18 =
    record {
      code = codes "not-utf8";
      text = codes "not UTF-8 at OFFSET";
      meaning =
          codes "a document is UTF-8 (RFC 3629)";
      cause =
          codes "the bytes from OFFSET on are not UTF-8; OFFSET counts from the document's "
          ++ codes "first byte";
      remedy =
          codes "look there, or convert the file (iconv -f LATIN1 -t UTF-8, -f UTF-16)";
    }

-- what refusal 19 means, what causes it, and what to do
abbrev texts_19 : RefusalTexts
texts_19 =
    record {
      code = codes "not-json";
      text = codes "not JSON";
      meaning =
          codes "a document is one JSON text (RFC 8259) of at most 127 levels, without a "
          ++ codes "number too large for a float";
      cause =
          codes "mostly a document was forgotten or cut, two came in place of one, document 1 "
          ++ codes "is on several lines, or a byte order mark comes first";
      remedy =
          codes "jq empty FILE finds the place; if it finds none, check that each document is "
          ++ codes "where the command reads it";
    }

-- what refusal 20 means, what causes it, and what to do
abbrev texts_20 : RefusalTexts
texts_20 =
    record {
      code = codes "wrong-shape";
      text = codes "shape";
      meaning =
          codes "a document and its rows have the form of the kind that is read";
      cause =
          codes "mostly language maps in place of a site; or a missing or unknown member, a "
          ++ codes "number in place of a string, or a fraction";
      remedy =
          codes "check that each document is of the kind that is read there (jq -c .kind; "
          ++ codes "language maps have none), then compare it with docs/FORMATS.md";
    }

-- what refusal 21 means, what causes it, and what to do
abbrev texts_21 : RefusalTexts
texts_21 =
    record {
      code = codes "wrong-order";
      text = codes "cell order";
      meaning =
          codes "rows ascend by id and then by language, in byte order";
      cause =
          codes "the key of the row does not come after that of the row before";
      remedy =
          codes "sort the rows, and keep one of each key";
    }

-- what refusal 22 means, what causes it, and what to do
abbrev texts_22 : RefusalTexts
texts_22 =
    record {
      code = codes "repeated-language";
      text = codes "language repeated";
      meaning =
          codes "the languages of a message differ, without regard to case";
      cause =
          codes "two keys of one language map differ at most in case";
      remedy =
          codes "keep one of them";
    }

-- what refusal 23 means, what causes it, and what to do
abbrev texts_23 : RefusalTexts
texts_23 =
    record {
      code = codes "too-large";
      text = codes "document is over 67108864 bytes";
      meaning =
          codes "a command reads at most 67108864 bytes, all its documents together";
      cause =
          codes "the input is longer; the limit is our own";
      remedy =
          codes "split language maps; if a sync of two sites is refused, exchange deltas; keep "
          ++ codes "a large site in parts (docs/SCALING.md)";
    }

-- what refusal 24 means, what causes it, and what to do
abbrev texts_24 : RefusalTexts
texts_24 =
    record {
      code = codes "read-error";
      text = codes "read fault";
      meaning =
          codes "the input is read to its end";
      cause =
          codes "the input gave an error: it is a folder or closed, a disk or network fails, "
          ++ codes "or it is a non-blocking pipe with nothing in it yet";
      remedy =
          codes "cat < FILE says why";
    }

-- what refusal 25 means, what causes it, and what to do
abbrev texts_25 : RefusalTexts
texts_25 =
    record {
      code = codes "write-error";
      text = codes "write fault";
      meaning =
          codes "the output takes all that is written";
      cause =
          codes "the output gave an error or took no byte: the disk is full, the reader went "
          ++ codes "away, or it is a non-blocking pipe that is full; a first part of the text "
          ++ codes "may be written";
      remedy =
          codes "cat FILE > OUT says why";
    }

-- what refusal 26 means, what causes it, and what to do
abbrev texts_26 : RefusalTexts
texts_26 =
    record {
      code = codes "out-of-memory";
      text = codes "out of memory";
      meaning =
          codes "there is memory for what is asked";
      cause =
          codes "an allocation was refused";
      remedy =
          codes "try again with more memory, or a higher ulimit -v; nothing was lost";
    }

-- what refusal 27 means, what causes it, and what to do
abbrev texts_27 : RefusalTexts
texts_27 =
    record {
      code = codes "site-name-invalid";
      text = codes "site name";
      meaning =
          codes "a site name has 1 to 16 bytes of a to z, 0 to 9 and -";
      cause =
          codes "the name is empty, too long, or has another byte, such as a capital, a dot or "
          ++ codes "an underscore";
      remedy =
          codes "give the site another name";
    }

-- what refusal 28 means, what causes it, and what to do
abbrev texts_28 : RefusalTexts
texts_28 =
    record {
      code = codes "unknown-version";
      text = codes "version unknown";
      meaning =
          codes "the version of a document is 1 or 2";
      cause =
          codes "the document is of the right kind, but a later program made it";
      remedy =
          codes "use that program";
    }

-- what refusal 29 means, what causes it, and what to do
abbrev texts_29 : RefusalTexts
texts_29 =
    record {
      code = codes "clock-ahead";
      text = codes "time is ahead";
      meaning =
          codes "no row has a time after the limit";
      cause =
          codes "the time of row R is after that of --not-after: a clock runs ahead, or "
          ++ codes "somebody made the time up";
      remedy =
          codes "set the clock right, and drop the cells of that time where they come from, "
          ++ codes "as docs/RECIPES.md says under A time far ahead";
    }

-- what refusal 30 means, what causes it, and what to do
abbrev texts_30 : RefusalTexts
texts_30 =
    record {
      code = codes "own-edit-missing";
      text = codes "an edit of this site is missing here";
      meaning =
          codes "a site has each edit that it made, or a later one of that label";
      cause =
          codes "row R is an edit that the receiving site made itself and lacks: the site was "
          ++ codes "put back to an older copy, or another site has its name";
      remedy =
          codes "before the next edit apply what every other site has, without --check-own; if "
          ++ codes "two sites have one name, give one of them another";
    }

-- what refusal 31 means, what causes it, and what to do
abbrev texts_31 : RefusalTexts
texts_31 =
    record {
      code = codes "fallback-malformed";
      text = codes "fallback at OFFSET";
      meaning =
          codes "a table of fallbacks has elements TAG=TAG between commas, each left tag once";
      cause =
          codes "the element that begins at OFFSET is no TAG=TAG of well-formed tags, or an earlier "
          ++ codes "one has its left tag";
      remedy =
          codes "look there; write the tags with hyphens, and keep one element of each left tag";
    }

-- the texts of the refusals 1 to 31, in their order
abbrev pub refusals : List RefusalTexts
refusals =
    texts_1 ∷ texts_2 ∷ texts_3 ∷ texts_4 ∷ texts_5 ∷ texts_6 ∷ texts_7 ∷ texts_8 ∷ texts_9
    ∷ texts_10 ∷ texts_11 ∷ texts_12 ∷ texts_13 ∷ texts_14 ∷ texts_15 ∷ texts_16 ∷ texts_17
    ∷ texts_18 ∷ texts_19 ∷ texts_20 ∷ texts_21 ∷ texts_22 ∷ texts_23 ∷ texts_24 ∷ texts_25
    ∷ texts_26 ∷ texts_27 ∷ texts_28 ∷ texts_29 ∷ texts_30 ∷ texts_31 ∷ []

-- the texts of the refusal of this number
abbrev pub refusal_of : ℕ → Option RefusalTexts
refusal_of number = if number == 0 then None else slice_get refusals (number - 1)

-- the number of the refusal that has this word
abbrev pub number_of_code : List ℕ → Option ℕ
number_of_code code =
    option_map (λ place. place + 1) (position (λ texts. bytes_eq texts.code code) refusals)

-- what a refusal of the code says
abbrev pub refusal_texts : Refusal → RefusalTexts
refusal_texts refusal =
    record {
      code = refusal.code.now;
      text = refusal.text.now;
      meaning = refusal.meaning.now;
      cause =
          refusal.cause.now;
      remedy =
          refusal.remedy.now;
    }

-- "a" to "z", "0" to "9" or "-"
abbrev pub is_code_byte : ℕ → Bool
is_code_byte b = (nat_le 97 b && nat_le b 122) || ((nat_le 48 b && nat_le b 57) || (b == 45))

-- 1 to 32 such bytes
abbrev pub is_code : List ℕ → Bool
is_code text = list_all is_code_byte text && nat_lt 0 (length text) && nat_lt (length text) 33

-- the text is one line, without its end
abbrev pub is_line : List ℕ → Bool
is_line text = list_all (λ byte. not (byte == 10)) text

-- each text is one line, and the printed text and the meaning have at most 255 bytes
abbrev pub are_lines : RefusalTexts → Bool
are_lines texts =
    is_line texts.text && is_line texts.meaning && is_line texts.cause && is_line texts.remedy
    && nat_lt (length texts.text) 256 && nat_lt (length texts.meaning) 256
