mod Standing
