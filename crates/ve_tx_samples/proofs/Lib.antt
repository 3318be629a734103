mod OpsLemmas
