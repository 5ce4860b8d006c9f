-- A config that is printed is read again.
use Rattle.std.proofs.Common.{◌≡◌, ℕ, ◌+◌, ◌≤◌, Bool, List, [], ◌∷◌, ◌++◌, length, drop, codes, Result, Ok, refl, ap, ◌∙◌}
use Rattle.std.specs.List.{flat_map, AllByRecursion}
use Rattle.std.proofs.lemmas.List.Concat.{flat_map-cons}
use Rattle.hex.specs.Hex.{IsBytes}
use Rattle.mb_base.specs.Limits.{text_limit}
use Rattle.mb_base.specs.Shapes.{Bytes}
use Rattle.mb_sched.specs.declared.configs.Config.{Config}
use Rattle.mb_sched.specs.Words.{operation_of}
use Rattle.mb_sched.specs.Lines.{lines, is_ended, ◌>>=◌}
use Rattle.mb_sched.specs.Printing.{hex_word}
use Rattle.mb_sched.specs.TextLines.{all_lines}
use Rattle.mb_sched.specs.Settings.{SettingsContents, settings_of, settings_text}
use Rattle.mb_sched.specs.Configs.{ConfigContents, with_ops, op_line, config_of, config_contents, op_text, config_text, ConfigFits}
use Rattle.mb_sched.proofs.PrintedHex.{operation_of-hex_word, IsWord-hex_word}
use Rattle.mb_sched.proofs.PrintedLines.{keyword_begins, keyword_again, settings_lines, settings_are, settings_again}

-- all operations that are printed
ops_again : (n : ℕ) (ops : List Bytes) → AllByRecursion (λ (op : Bytes). (length op ≤ text_limit) × IsBytes op) ops
    → all_lines op_line (is_ended (flat_map op_text ops)) n (lines (flat_map op_text ops)) ≡ Ok ops
unfolding all_lines
ops_again n [] fit = refl
ops_again n (op ∷ ops) fit =
    let rest : Bytes = flat_map op_text ops in
    let b = keyword_begins (codes "op") (hex_word op) rest refl (IsWord-hex_word op fit.0.1) in
    let one = keyword_again operation_of (codes "op") (hex_word op) op refl refl (IsWord-hex_word op fit.0.1) (operation_of-hex_word op fit.0.1 fit.0.0) in
    ap (λ (text : Bytes). all_lines op_line (is_ended text) n (lines text)) (flat_map-cons {X = Bytes} op_text op ops)
    ∙ ap (λ (ended : Bool). all_lines op_line ended n (lines (op_text op ++ rest))) b.end
    ∙ ap (λ (ls : List Bytes). all_lines op_line (is_ended rest) n ls) b.first
    ∙ rw (one, ops_again (n + 1) ops fit.1) refl

-- what the lines of a text say, which is ended or not
abbrev read_lines : Bool → List Bytes → Result ConfigContents ℕ
read_lines ended ls = settings_of (codes "minbft config 2") ls >>= λ settings. all_lines op_line ended 7 (drop 6 ls) >>= λ ops. Ok (with_ops settings ops)

by_lines : (text : Bytes) → config_of text ≡ read_lines (is_ended text) (lines text)
unfolding config_of
by_lines text = refl

both_read : (ended : Bool) (ls : List Bytes) (settings : SettingsContents) (ops : List Bytes) → settings_of (codes "minbft config 2") ls ≡ Ok settings → all_lines op_line ended 7 (drop 6 ls) ≡ Ok ops
    → read_lines ended ls ≡ Ok (with_ops settings ops)
both_read ended ls settings ops head tail = rw (head, tail) refl

text_is : (c : Config) → config_text c ≡ codes "minbft config 2\n" ++ (settings_text c.shape c.secret c.port ++ flat_map op_text c.ops)
unfolding config_text
text_is c = refl

pub config_again : (c : Config) → ConfigFits c → config_of (config_text c) ≡ Ok (config_contents c)
config_again c fits =
    let title : Bytes = codes "minbft config 2" in
    let titled : Bytes = codes "minbft config 2\n" in
    let rest : Bytes = flat_map op_text c.ops in
    let text : Bytes = titled ++ (settings_text c.shape c.secret c.port ++ rest) in
    let port = fits.settings.port in
    let is = settings_are title titled (λ behind. refl) refl c.shape c.secret c.port fits.settings.secret_bytes port.0 port.1 rest in
    let head = settings_again title titled (λ behind. refl) refl c.shape c.secret c.port fits.settings.secret_bytes port.0 port.1 fits.settings.secret_length (lines rest) in
    ap (λ (t : Bytes). config_of t) (text_is c)
    ∙ by_lines text
    ∙ ap (λ (ended : Bool). read_lines ended (lines text)) is.1
    ∙ ap (λ (found : List Bytes). read_lines (is_ended rest) found) is.0
    ∙ both_read (is_ended rest) (settings_lines title c.shape c.secret c.port ++ lines rest) _ c.ops head (ops_again 7 c.ops fits.ops)
