-- The texts of the labels of instances, place by place.
use Rattle.std.proofs.Common.{◌≡◌, ℕ, ◌+◌, ◌<◌, List, [], ◌∷◌, ◌++◌, map, length, take, get_or, slice_get, refl, sym, ap, ◌∙◌, arith}
use Rattle.std.proofs.lemmas.List.{get_or-map, length-map, map-append, take_more}
use Rattle.std.specs.Global.{Vec}
use Rattle.mon_report.specs.Report.{Entry}
use Rattle.mon_page.specs.declared.extras.InstanceLabels.{InstanceLabels}
use Rattle.mon_page.specs.Labelled.{Labelled, labelled}
use Rattle.mon_page.proofs.Promised.{labelled-at, length-labelled}
use Rattle.mon_formats.specs.LabelTexts.{HaveLabels}

-- texts of all instances, in their order
pub all_texts : (labels : Labelled → List ℕ) (given : List InstanceLabels) (entries : List Entry) (texts : List (Vec ℕ))
    → map (λ (t : Vec ℕ). t.items) texts ≡ map labels (labelled given entries) → HaveLabels labels (labelled given entries) entries given texts
all_texts labels given entries texts are = record { are = refl; texts_are = sym are }

-- there are as many texts as instances
pub texts_of_all : (labels : Labelled → List ℕ) (given : List InstanceLabels) (entries : List Entry) (texts : List (Vec ℕ))
    → map (λ (t : Vec ℕ). t.items) texts ≡ map labels (labelled given entries) → length texts ≡ length entries
texts_of_all labels given entries texts are =
    omega (arith, ap length are, length-map texts (λ (t : Vec ℕ). t.items), length-map (labelled given entries) labels, length-labelled given entries)

-- one text more
pub one_text : (labels : Labelled → List ℕ) (all : List Labelled) (i : ℕ) (x : Labelled) (texts : List (Vec ℕ)) (t : Vec ℕ) → i < length all → x ≡ get_or all i x
    → t.items ≡ labels x → map (λ (v : Vec ℕ). v.items) texts ≡ map labels (take i all)
    → map (λ (v : Vec ℕ). v.items) (texts ++ t ∷ []) ≡ map labels (take (i + 1) all)
one_text labels all i x texts t lt there is so_far =
    map-append (λ (v : Vec ℕ). v.items) texts (t ∷ [])
    ∙ (λ k. so_far k ++ (is ∙ ap labels there) k ∷ [])
    ∙ sym (ap (map labels) (take_more all i x lt) ∙ map-append labels (take i all) (get_or all i x ∷ []))

module _ (labels : Labelled → List ℕ) (all : List Labelled) (entries : List Entry) (given : List InstanceLabels) (texts : List (Vec ℕ)) (have : HaveLabels labels all entries given texts) where
  pub as_many : length all ≡ length entries
  as_many = ap length have.are ∙ length-labelled given entries

  module _ (i : ℕ) (x : Labelled) (lt : i < length all) where
    pub instance_at : (e : Entry) → get_or all i x ≡ (get_or entries i e, slice_get given i)
    instance_at e =
        ap (λ l. get_or l i x) have.are ∙ labelled-at given entries i e x (omega (arith, lt, ap length have.are, length-labelled given entries))

    pub label_at : (t : Vec ℕ) → (get_or texts i t).items ≡ labels (get_or all i x)
    label_at t =
        let inside : i < length texts = omega (arith, lt, ap length have.texts_are, length-map all labels, length-map texts (λ (v : Vec ℕ). v.items)) in
        sym (get_or-map (λ (v : Vec ℕ). v.items) texts i t [] inside) ∙ ap (λ l. get_or l i []) (sym have.texts_are) ∙ get_or-map labels all i x [] lt
