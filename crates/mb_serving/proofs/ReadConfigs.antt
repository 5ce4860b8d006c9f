-- A config that was read keeps the limits of its lines.
use Rattle.std.proofs.Common.{◌≡◌, ℕ, ◌≤◌, ◌&&◌, leb, length, codes, Option, Some, None, sym, ap, subst, ◌∙◌, arith}
use Rattle.std.specs.Prelude.{Result, Ok, Err, option_and_then}
use Rattle.std.specs.Result.{result_ok}
use Rattle.std.proofs.lemmas.Bool.{leb-true, and_parts}
use Rattle.hex.specs.Hex.{IsBytes, decode_sized}
use Rattle.hex.specs.declared.error.FromHexError.{FromHexError}
use Rattle.hex.proofs.HexLemmas.{decode_of-ok, decode_sized-ok, decode_sized-twice}
use Rattle.mb_base.specs.Limits.{most_faults, least_interval, most_interval, most_clients}
use Rattle.mb_base.specs.Shapes.{Bytes, is_within}
use Rattle.mb_sched.specs.declared.configs.Config.{Config}
use Rattle.mb_sched.specs.Words.{is_decimal, decimal_value, number_in, digest_of}
use Rattle.mb_sched.specs.Lines.{read_line}
use Rattle.mb_sched.specs.TextLines.{exact_line, word_behind, keyword_line}
use Rattle.mb_sched.specs.Settings.{SettingsContents, settings_by, least_port, most_port}
use Rattle.mb_sched.specs.Configs.{config_contents, SettingsFit}
use Rattle.mb_sched.proofs.ReadSteps.{bind_ok, ok_is, line_ok, allowed}
use Rattle.mb_sched.proofs.ReadWords.{some_is}
use Rattle.mb_sched.proofs.ConfigSpellings.{config_spelled}
use Rattle.mb_answer.specs.Configs.{IsConfigText}

-- ---- a word

found_is : (r : Result Bytes FromHexError) (bytes : Bytes) → result_ok r ≡ Some bytes → r ≡ Ok bytes
found_is (Ok x) bytes e = ap Ok (some_is x bytes e)
found_is (Err d) bytes e = absurd cc

record IsKey (bytes : Bytes) : Type 0 where
  len : length bytes ≡ 32
  small : IsBytes bytes

digest_keeps : (word bytes : Bytes) → digest_of word ≡ Some bytes → IsKey bytes
digest_keeps word bytes e =
    let is = found_is (decode_sized word 32) bytes e in
    let len = decode_sized-ok word 32 bytes is in
    let ok = decode_of-ok word bytes (sym (decode_sized-twice word 32 len) ∙ is) in
    record { len = omega (arith, len, ok.2); small = ok.3 }

number_keeps : (low high n : ℕ) (word : Bytes) → number_in low high word ≡ Some n → (low ≤ n) × (n ≤ high)
number_keeps low high n word e =
    let a = allowed (is_decimal word && is_within low high (decimal_value word)) (Some (decimal_value word)) n e in
    let b = and_parts (is_decimal word) (is_within low high (decimal_value word)) a.0 in
    let c = and_parts (leb low (decimal_value word)) (leb (decimal_value word) high) b.1 in
    subst (λ (m : ℕ). (low ≤ m) × (m ≤ high)) (some_is (decimal_value word) n a.1) (leb-true _ _ c.0, leb-true _ _ c.1)

-- ---- a line

word_read : {A : Type 0} (read : Bytes → Option A) (word : Option Bytes) (x : A) → option_and_then read word ≡ Some x → (w : Bytes) × (read w ≡ Some x)
word_read read None x e = absurd cc
word_read read (Some w) x e = (w, e)

line_read : {A : Type 0} (keyword : Bytes) (read : Bytes → Option A) (line : Option Bytes) (x : A) → option_and_then (keyword_line keyword read) line ≡ Some x → (w : Bytes) × (read w ≡ Some x)
line_read keyword read None x e = absurd cc
line_read keyword read (Some line) x e = word_read read (word_behind keyword line) x e

-- ---- the settings

record Keeps (s : SettingsContents) : Type 0 where
  key : IsKey s.secret
  port : (least_port ≤ s.port) × (s.port ≤ most_port)

settings_keep : (title : Bytes) (l0 l1 l2 l3 l4 l5 : Option Bytes) (s : SettingsContents) → settings_by title l0 l1 l2 l3 l4 l5 ≡ Ok s → Keeps s
unfolding settings_by
settings_keep title l0 l1 l2 l3 l4 l5 s e =
    let a0 = bind_ok (read_line 1 (exact_line title) l0) _ s e in
    let a1 = bind_ok (read_line 2 (keyword_line (codes "f") (number_in 1 most_faults)) l1) _ s a0.2 in
    let a2 = bind_ok (read_line 3 (keyword_line (codes "k") (number_in least_interval most_interval)) l2) _ s a1.2 in
    let a3 = bind_ok (read_line 4 (keyword_line (codes "clients") (number_in 1 most_clients)) l3) _ s a2.2 in
    let a4 = bind_ok (read_line 5 (keyword_line (codes "secret") digest_of) l4) _ s a3.2 in
    let a5 = bind_ok (read_line 6 (keyword_line (codes "port") (number_in least_port most_port)) l5) _ s a4.2 in
    let key = line_read (codes "secret") digest_of l4 a4.0 (line_ok 5 (keyword_line (codes "secret") digest_of) l4 a4.0 a4.1) in
    let port = line_read (codes "port") (number_in least_port most_port) l5 a5.0 (line_ok 6 (keyword_line (codes "port") (number_in least_port most_port)) l5 a5.0 a5.1) in
    rw (← ok_is {E = ℕ} _ s a5.2) (record { key = digest_keeps key.0 a4.0 key.1; port = number_keeps least_port most_port a5.0 port.0 port.1 })

pub settings_fit : (text : Bytes) (c : Config) → IsConfigText text c → SettingsFit c
settings_fit text c is =
    let keeps = settings_keep _ _ _ _ _ _ _ _ (config_spelled text (config_contents c) is.1).settings in
    record { secret_length = keeps.key.len; secret_bytes = keeps.key.small; port = keeps.port }
